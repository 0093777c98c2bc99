pub mod SettingFits
