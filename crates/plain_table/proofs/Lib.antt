pub mod TableLemmas
pub mod GameLemmas
pub mod ColumnLemmas
