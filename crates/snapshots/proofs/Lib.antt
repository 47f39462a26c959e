mod NumberLaws
mod ResumeLaws
mod SnapshotLaws
