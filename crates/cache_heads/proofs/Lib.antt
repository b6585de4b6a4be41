pub mod HeadLemmas
