pub mod BoxLawProofs
pub mod BytesTold
pub mod FirstFault
pub mod FirstFound
pub mod NotesShowFrames
pub mod SentFrame
pub mod UnheardBoxes
