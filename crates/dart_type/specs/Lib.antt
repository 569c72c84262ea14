pub mod Instance
pub mod Member
pub mod Relation
-- means of proof
pub mod Answers
pub mod Clauses
pub mod Intern
pub mod Search
