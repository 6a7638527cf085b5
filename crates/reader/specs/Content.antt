-- The content call (document 01, "Content of a string"). The code answers with a `Result`: `content_given` gives it.
-- Assumes nothing.
use Rattle.std.specs.Prelude.{ℕ, Result, Ok, Err, ◌-◌, Bool, cond, ◌&&◌, List, ◌++◌, leb, length, take, drop}
use Rattle.std.proofs.Math.Option.{Option, none, some}
use Rattle.text.specs.declared.switches.Switches.{Switches}
use Rattle.text.specs.Utf8.{is_utf8}
use Rattle.lexer.specs.Token.{token_content}
use Rattle.reader.specs.Reading.{max_text}

-- the part of a text from `start` to before `stop`
abbrev pub part : (start stop : ℕ) → List ℕ → List ℕ
part start stop text = take (stop - start) (drop start text)

-- "A span that runs backwards, past the text or over 65,536 bytes is 19 too"
unfoldable pub is_span : (start stop : ℕ) → List ℕ → Bool
is_span start stop text = leb start stop && leb stop (length text) && leb (stop - start) max_text

-- "any string token or any word of the key shape, valid by itself, UTF-8 included"
unfoldable pub content_alone : Switches → (token : List ℕ) → Option (List ℕ)
content_alone sw token = cond (is_utf8 token) (token_content sw token) none

-- "The content call is given the text and a span": the content of that span, if it has one
unfoldable pub span_content : Switches → (start stop : ℕ) → List ℕ → Option (List ℕ)
span_content sw start stop text = cond (is_span start stop text) (content_alone sw (part start stop text)) none

-- what the call answers: the content, or a refusal
pub data ContentAnswer : Type 0 where
  given : (content : List ℕ) → ContentAnswer
  refused : (number : ℕ) → ContentAnswer

-- 19 "span isn't one string or key", 20 "content longer than the output"; "19 goes before 20"
unfoldable pub fitting : (room : ℕ) → Option (List ℕ) → ContentAnswer
fitting room none = refused 19
fitting room (some content) = cond (leb (length content) room) (given content) (refused 20)

-- what the content call answers, with this text and output
unfoldable pub content_call : Switches → (start stop : ℕ) (text out : List ℕ) → ContentAnswer
content_call sw start stop text out = fitting (length out) (span_content sw start stop text)

-- "writes its content at the output's front; the rest of the output stays"; "both write nothing"
unfoldable pub written : ContentAnswer → List ℕ → List ℕ
written (given content) out = content ++ drop (length content) out
written (refused number) out = out

-- each case as a result: the bytes written, or the number of the refusal
unfoldable pub content_given : ContentAnswer → Result ℕ ℕ
content_given (given content) = Ok (length content)
content_given (refused number) = Err number
