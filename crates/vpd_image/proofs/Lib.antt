pub mod ApartLemmas
pub mod EntryLemmas
pub mod ImageLemmas
pub mod OrderLemmas
pub mod PlaceLemmas
pub mod RoomLemmas
pub mod ShareLemmas
