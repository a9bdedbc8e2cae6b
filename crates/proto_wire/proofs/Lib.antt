pub mod VarintLaws
pub mod VarintReadings
pub mod RecordReadings
pub mod PieceReadings
pub mod PackedReadings
pub mod FaultLaws
pub mod PieceLaws
pub mod RowLaws
pub mod MessageLaws
pub mod PackedLaws
pub mod FieldLaws
pub mod WritingLaws
pub mod GivenLaws
pub mod MessageSteps
pub mod SinkLaws
pub mod EachLaws
pub mod InsideLaws
mod ShortRecords
mod FiveBytes
