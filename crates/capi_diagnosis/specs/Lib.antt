-- What the C interface answers, in numbers. Every function answers 0, or the number of its refusal, and a refusal stores
-- nothing.
pub mod Diagnosis
