pub mod AnswerLaws
pub mod WordLaws
pub mod ReaderLaws
pub mod WriterLaws
pub mod OneResult
pub mod RoundTrip
