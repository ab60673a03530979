pub mod CardsTheorem
pub mod Lemmas
pub mod MachineLaws
pub mod Refusals
pub mod Theorem
pub mod VerdictLaws
pub mod Worked
