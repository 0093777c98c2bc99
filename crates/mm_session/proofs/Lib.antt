pub mod CourseLemmas
mod ComingLemmas
pub mod HeadlineLemmas
mod KeptLemmas
pub mod LawLemmas
pub mod SoundLemmas
pub mod SessionLemmas
mod TakenLemmas
mod TurnLemmas
mod SavesLemmas
mod OriginLemmas
pub mod OutputLemmas
mod RefusedLemmas
pub mod EventLemmas
pub mod HearingLemmas
mod UndoLemmas
