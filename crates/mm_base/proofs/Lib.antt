pub mod HeardLemmas
pub mod LogLemmas
pub mod RecorderLemmas
pub mod SinkLemmas
pub mod SourceLemmas
pub mod StoreLemmas
pub mod Refusing
