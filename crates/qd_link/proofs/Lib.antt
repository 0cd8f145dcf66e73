mod ClosingLaws
mod ReadingLaws
mod WritingLaws
