pub mod IndexRuns
pub mod FolderRuns
pub mod WriterFaults
