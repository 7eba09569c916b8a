pub mod RowRun
