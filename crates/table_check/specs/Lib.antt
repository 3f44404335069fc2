-- What the contracts of `table_check` cite. `Answers` is what a caller reads; `Tests` says what the parts of the check decide.
pub mod Answers
pub mod Tests
pub mod Checkers
