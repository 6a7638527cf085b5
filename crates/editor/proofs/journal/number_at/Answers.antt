use native.Mathlib.Omega.{arith}
use mathlib.Core.Path.{◌∙◌}
use Rattle.editor.proofs.JournalLaws.{number_read}
use Rattle.editor.proofs.journal.number_at.Goals as goal

pub returns : goal.returns
returns c = (c.from_le_bytes.ensures ∙ number_read c.args.s.now c.args.at, omega arith)
