use mathlib.Core.Path.{ap}
use mathlib.Core.Bool.{false}
use Rattle.reader.specs.declared.tree.SpanWords.{SpanWords}
use Rattle.reader.proofs.values.named_due.Goals as goal

pub returns : goal.returns
returns c =
    ap (λ (name : SpanWords). record { any = c.args.due.any; fresh = false; label = record { start = c.args.due.label.start; key = c.args.due.label.key; name = name }; spot = c.args.due.spot }) c.span_words.ensures
