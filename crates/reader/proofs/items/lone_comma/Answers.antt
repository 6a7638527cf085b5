use mathlib.Core.Path.{sym, ap}
use Rattle.reader.specs.Syntax.{empty_by_comma}
use Rattle.reader.proofs.items.lone_comma.Goals as goal

pub returns-in-Object : goal.returns-in-Object
unfolding empty_by_comma
returns-in-Object c = sym (ap (empty_by_comma c.args.sw) c.in-Object.is)

pub returns-in-Array : goal.returns-in-Array
unfolding empty_by_comma
returns-in-Array c = sym (ap (empty_by_comma c.args.sw) c.in-Array.is)

pub returns-in-Tuple : goal.returns-in-Tuple
unfolding empty_by_comma
returns-in-Tuple c = sym (ap (empty_by_comma c.args.sw) c.in-Tuple.is)
