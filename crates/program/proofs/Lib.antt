pub mod AnswerLaws
pub mod CheckLaws
pub mod ClimbLaws
pub mod PlaceLaws
pub mod SearchLaws
pub mod ValueLaws
