-- The customer's sample record: the text for its job, and the answer for its recording.
pub mod JobSample
pub mod RecordingSample
