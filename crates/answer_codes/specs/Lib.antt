-- The definitions of `answer_codes`.
pub mod AnswerCode
pub mod Drew
pub mod Reports
