use mathlib.Core.Path.{ap}
use mathlib.Core.Bool.{true}
use Rattle.reader.specs.declared.tree.SpanWords.{SpanWords}
use Rattle.reader.proofs.values.fresh_due.Goals as goal

pub returns : goal.returns
returns c = ap (λ (key : SpanWords). record { any = c.args.any; fresh = true; label = record { start = c.args.start; key = key; name = record { start = 0; stop = 0 } }; spot = c.args.spot }) c.span_words.ensures
