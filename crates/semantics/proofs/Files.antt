-- Papers as files: laws of the words in bytes, of a file and its parts, and of the calls; and that what is written is
-- read again, and what is read is written again.
pub mod BytesLaws
pub mod FileLaws
pub mod FileCallLaws
pub mod RoundTrip
