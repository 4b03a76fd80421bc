pub mod Discipline
pub mod Disciplines
pub mod Fair
pub mod FairLaws
