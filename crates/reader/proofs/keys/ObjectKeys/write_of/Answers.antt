use Rattle.reader.proofs.LookupLaws.{node_here, node_some, node_written}
use Rattle.reader.proofs.keys.ObjectKeys.write_of.Goals as goal

pub write-requires : goal.write-requires
write-requires c = record { key_here = node_here c.requires.has_key c.span.ensures.start c.span.ensures.stop; out_len = c.requires.out_len }

pub unwrap-requires : goal.unwrap-requires
unwrap-requires c = node_some c.span.ensures.start c.span.ensures.stop c.write.ensures c.requires.has_key

pub returns : goal.returns
returns c = node_written c.span.ensures.start c.span.ensures.stop c.write.ensures c.unwrap.ensures
