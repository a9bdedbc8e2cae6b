-- Members of filtered and mapped lists.
pub use Rattle.digraph.proofs.Members.{from_filter, from_map, in_map}
