pub mod SignAnswers
