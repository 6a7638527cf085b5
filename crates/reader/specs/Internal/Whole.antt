-- A text read as one value.
-- Assumes nothing.
use Rattle.std.specs.Prelude.{ℕ, ◌≤◌, ◌≡◌, Bool, List, Ok, Err}
use Rattle.std.proofs.lemmas.List.Edits.{sets}
use Rattle.text.specs.declared.switches.Switches.{Switches}
use Rattle.text.specs.Refusal.{refusal, Refusal}
use Rattle.lexer.specs.declared.item.Next.{Next}
use Rattle.std.specs.declared.result.Result.{Result}
use Rattle.lexer.specs.declared.item.Next.TheVariants as N
use Rattle.lexer.specs.Token.{tokens, tokens_from}
use Rattle.lexer.specs.Answer.{first_of}
use Rattle.reader.specs.declared.tree.Limits.{Limits}
use Rattle.reader.specs.declared.tree.Rules.{Rules}
use Rattle.reader.specs.declared.read.Whole.{Whole}
use Rattle.reader.specs.Tree.{Tree, size, head_of, rows, no_parent}
use Rattle.reader.specs.Syntax.{Outcome, taken, refused, run, before}
use Rattle.reader.specs.Reading.{outcome}

-- a value was read from `start` to `stop`: what comes next must be the text's end
unfoldable pub alone_of : (start stop nodes : ℕ) → Result Next Refusal → Result Whole Refusal
alone_of start stop nodes (Ok (N.Token t)) = Err (refusal 7 t.span.start)
alone_of start stop nodes (Ok (N.End place)) = Ok (record { start = start; stop = stop; nodes = nodes })
alone_of start stop nodes (Err f) = Err f

-- the same by the text
abbrev pub alone_at : Switches → List ℕ → (start stop nodes : ℕ) → Result Whole Refusal
alone_at sw s start stop nodes = alone_of start stop nodes (first_of (tokens_from sw s stop))

-- the outcome is this tree, and its rows are written
pub record TreeRead (limits : Limits) (o : Outcome) (tin tout : List ℕ) (start stop nodes : ℕ) : Type 0 where
  pub tree : Tree
  pub is : o ≡ taken tree
  pub begun : (head_of tree).value.start ≡ start
  pub stopped : (head_of tree).value.stop ≡ stop
  pub grew : nodes ≡ size tree
  pub below : nodes ≤ limits.nodes
  pub wrote : tout ≡ sets tin 0 (rows no_parent 0 tree)

-- the tree or the refusal, by the code's answer
abbrev pub TreeIs : Limits → Outcome → (tin tout : List ℕ) → Result Whole Refusal → Type 0
TreeIs limits o tin tout (Ok w) = TreeRead limits o tin tout w.start w.stop w.nodes
TreeIs limits o tin tout (Err f) = o ≡ refused f.number f.place

-- the outcome of a text's tokens
pub record WholeAt (rules : Rules) (any : Bool) (s tin tout : List ℕ) (r : Result Whole Refusal) : Type 0 where
  pub is : TreeIs rules.limits (run rules.sw rules.limits (tokens rules.sw s) (before any)) tin tout r

-- the outcome of a text, its length and UTF-8 judged first
pub record JudgedAt (rules : Rules) (any : Bool) (s tin tout : List ℕ) (r : Result Whole Refusal) : Type 0 where
  pub is : TreeIs rules.limits (outcome rules.sw any rules.limits s) tin tout r
