-- Req 05, "The season's summary": what it is for a height to be measured, said by arithmetic, and what a record's height is; which texts have
-- a summary, and which node the refusal 21 names; that the counts add up; what the three heights are as numbers, and that a missing height
-- changes none of them; what the call for C tells; and some texts, worked out by hand.
-- By its contract `summarize_edition` (summary/src/summary.rt) answers `summary`, and what `duper_summary` (duper/src/lib.rt) leaves is in
-- `SummaryCrosses`.
-- Assumes nothing.
use Rattle.std.specs.Prelude.{◌≡◌, ℕ, suc, ◌+◌, ◌*◌, ◌/◌, ◌%◌, ◌^◌, ◌≤◌, ◌<◌, Bool, true, false, ◌⊎◌, List, [], ◌∷◌, ◌++◌, T, length, get_or, pos, negsuc, Float, Some, None, Ok, Err}
use Prim.Native.String.{String}
use Rattle.std.proofs.Math.Option.{Option, none, some}
use Rattle.std.specs.Float.{binary64}
use Rattle.std.specs.Float.Ieee.{round, le, of_bits}
use Rattle.std.specs.Float.Ieee.Exact.{HasValue}
use Rattle.text.specs.declared.switches.Switches.{Switches}
use Rattle.text.specs.Refusal.{refusal, Refusal}
use Rattle.text.specs.Switches.{present_edition}
use Rattle.text.specs.Bytes.{ascii}
use Rattle.reader.specs.Tree as T
use Rattle.reader.specs.Tree.{Scalar, Tree}
use Rattle.reader.specs.Syntax.{taken, refused}
use Rattle.reader.specs.Reading.{reading, node_count, table_of, word_of}
use Rattle.nodes.specs.Nodes.{node_of, kind_of, children_of, has_key, Numbered, element}
use Rattle.summary.specs.Summary.{scalar_height, value_height, record_height, record_heights, is_measured, measured_heights, least, greatest, sum_of, summary}
use Rattle.summary.specs.declared.heights.Height.{Height}
use Rattle.summary.specs.declared.heights.Height.TheVariants as H
use Rattle.summary.specs.declared.summary.Counts.{Counts}
use Rattle.summary.specs.declared.summary.Heights.{Heights}
use Rattle.summary.specs.declared.summary.Summary.{Summary}
use Rattle.std.specs.declared.result.Result.{Result}
use Rattle.duper.specs.Numbers.{SummaryCrosses}

-- ---- a height

-- "-0.0 is 0": a minus is that of 0 alone
abbrev pub NotBelow0 : (minus : Bool) (m : ℕ) → Type 0
NotBelow0 minus m = minus ≡ true → m ≡ 0

-- "integer or decimal, an exact whole number of micrometres": the value is of millimetres, and a thousand times the value is u
unfoldable pub Micrometres : Scalar → (u : ℕ) → Type 0
Micrometres (T.text token content) u = ⊥
Micrometres (T.bytes token content) u = ⊥
Micrometres (T.integer (pos n)) u = u ≡ n * 1000
Micrometres (T.integer (negsuc n)) u = ⊥
Micrometres (T.decimal minus m (pos n)) u = NotBelow0 minus m × (u ≡ m * 10 ^ n * 1000)
Micrometres (T.decimal minus m (negsuc n)) u = NotBelow0 minus m × (u * 10 ^ suc n ≡ m * 1000)
Micrometres T.false_value u = ⊥
Micrometres T.true_value u = ⊥
Micrometres T.null_value u = ⊥

-- "measured (.. from 0 to 10,000,000), null, .. or unfit (anything else)"
pub record HeightOf (s : Scalar) : Type 0 where
  pub measured : (u : ℕ) → scalar_height s ≡ H.Measured u → Micrometres s u × (u ≤ 10000000)
  pub measures : (u : ℕ) → Micrometres s u → u ≤ 10000000 → scalar_height s ≡ H.Measured u
  pub null : scalar_height s ≡ H.Null → s ≡ T.null_value
  pub is_null_law : s ≡ T.null_value → scalar_height s ≡ H.Null
  pub not_absent : scalar_height s ≡ H.Absent → ⊥

unfoldable pub HeightsExact : Type 0
HeightsExact = (s : Scalar) → HeightOf s

-- "In each object the key `height_mm`": of an object of a text that was taken, the height is that of the member with the key, and absent if
-- there is none
pub record RecordHeight (sw : Switches) (text : List ℕ) (n : ℕ) (t : Tree) : Type 0 where
  pub there : (i : ℕ) (c : Numbered) → element i n t ≡ some c → has_key sw text (ascii "height_mm") c.value ≡ true
      → record_height sw text t ≡ value_height c.value
  pub absent : ((i : ℕ) (c : Numbered) → element i n t ≡ some c → has_key sw text (ascii "height_mm") c.value ≡ false)
      → record_height sw text t ≡ H.Absent

unfoldable pub RecordsRead : Type 0
RecordsRead =
    (sw : Switches) (words : ℕ) (text : List ℕ) (n : ℕ) (t : Tree) → node_of (reading sw words text) n ≡ some t → kind_of t ≡ 1
    → RecordHeight sw text n t

-- ---- which texts have a summary

module _ (sw : Switches) (words : ℕ) (text : List ℕ) where
  -- what the call answers
  abbrev pub answer : Result Summary Refusal
  answer = summary sw text (reading sw words text)

-- a refusal by its number and place
abbrev pub refused_at : (number place : ℕ) → Result Summary Refusal
refused_at number place = Err (refusal number place)

-- the counts that an answer holds: "A refusal holds no counts or heights"
unfoldable pub counts_in : Result Summary Refusal → Option Counts
counts_in (Ok a) = some a.counts
counts_in (Err f) = none

-- the root is "an array of objects"
pub record Records (tree : Tree) : Type 0 where
  pub array : kind_of tree ≡ 2
  pub objects : (i : ℕ) (c : Numbered) → element i 0 tree ≡ some c → kind_of c.value ≡ 1

-- the first element that is no object is the i-th
pub record FirstOther (tree : Tree) (i : ℕ) (c : Numbered) : Type 0 where
  pub there : element i 0 tree ≡ some c
  pub other : kind_of c.value ≡ 1 → ⊥
  pub before : (j : ℕ) (d : Numbered) → j < i → element j 0 tree ≡ some d → kind_of d.value ≡ 1

module _ (sw : Switches) (words : ℕ) (text : List ℕ) where
  -- every reading is one of these: refused, or a tree with a root of another shape, with a first element that is no object, or of records
  pub record SummaryAnswer : Type 0 where
    -- "after 1 to 10"
    pub refused_text : (number place : ℕ) → reading sw words text ≡ refused number place → answer sw words text ≡ refused_at number place
    -- "A root of another shape, or an element that isn't an object, is refused .. with 21 and the node's number, the smallest such"
    pub other_root : (tree : Tree) → reading sw words text ≡ taken tree → (kind_of tree ≡ 2 → ⊥) → answer sw words text ≡ refused_at 21 0
    pub other_element : (tree : Tree) → reading sw words text ≡ taken tree → kind_of tree ≡ 2 → (i : ℕ) (c : Numbered) → FirstOther tree i c
        → answer sw words text ≡ refused_at 21 c.number
    pub summarized : (tree : Tree) → reading sw words text ≡ taken tree → Records tree
        → (counts : Counts) × (counts_in (answer sw words text) ≡ some counts)
    -- and nothing else has a summary
    pub only : (counts : Counts) → counts_in (answer sw words text) ≡ some counts
        → (tree : Tree) × (reading sw words text ≡ taken tree) × Records tree
    -- "Demand 1 counts this number": a refusal is 21 with a node of a text that was taken, or the reading's, one of 1 to 10
    pub of_a_node : (place : ℕ) → answer sw words text ≡ refused_at 21 place → place < node_count (reading sw words text)
    pub of_the_text : (number place : ℕ) → answer sw words text ≡ refused_at number place → (number ≡ 21 → ⊥)
        → (reading sw words text ≡ refused number place) × (1 ≤ number) × (number ≤ 10)

unfoldable pub SummariesAnswered : Type 0
SummariesAnswered = (sw : Switches) (words : ℕ) (text : List ℕ) → SummaryAnswer sw words text

-- ---- counts

-- "The four counts, each defined by itself, add up to the number of records": to the root's count of children, word 9 of node 0
unfoldable pub CountsAddUp : Type 0
CountsAddUp =
    (sw : Switches) (words : ℕ) (text : List ℕ) (counts : Counts) → counts_in (answer sw words text) ≡ some counts
    → counts.measured + (counts.null + (counts.absent + counts.unfit)) ≡ word_of (table_of words (reading sw words text)) 0 9

-- ---- heights

-- a list holds u
unfoldable pub Holds : (u : ℕ) → List ℕ → Type 0
Holds u [] = ⊥
Holds u (v ∷ l) = (u ≡ v) ⊎ Holds u l

-- "least, greatest": one of them, and none is below it, or above it
pub record Extremes (u : ℕ) (l : List ℕ) : Type 0 where
  pub least_held : Holds (least u l) (u ∷ l)
  pub least_all : (v : ℕ) → Holds v (u ∷ l) → least u l ≤ v
  pub greatest_held : Holds (greatest u l) (u ∷ l)
  pub greatest_all : (v : ℕ) → Holds v (u ∷ l) → v ≤ greatest u l

unfoldable pub ExtremesHeld : Type 0
ExtremesHeld = (u : ℕ) (l : List ℕ) → Extremes u l

-- a float that is this whole number
abbrev pub Is : Float → ℕ → Type 0
Is x n = HasValue x false n 1

-- as floats, of u and a list's
pub record Floats (h : Heights) (u : ℕ) (l : List ℕ) : Type 0 where
  -- the least and the greatest are whole numbers still
  pub least_is : Is h.least (least u l)
  pub greatest_is : Is h.greatest (greatest u l)
  -- "The mean is the exact sum as a float divided once by the count as a float": so it is the float that is nearest to sum / count
  pub mean_is : h.mean ≡ round binary64 false (sum_of (u ∷ l)) (length (u ∷ l))
  -- and lies between the two
  pub not_below : T (le h.least h.mean)
  pub not_above : T (le h.mean h.greatest)

-- "With at least one measured height the summary holds least, greatest and mean .. With none it holds no height at all"
module _ (sw : Switches) (words : ℕ) (text : List ℕ) where
  -- the measured heights of a tree's records
  abbrev pub measured_in : Tree → List ℕ
  measured_in tree = measured_heights (record_heights sw text (children_of tree))

  pub record HeightsIn : Type 0 where
    pub some_measured : (counts : Counts) (h : Heights) (tree : Tree) → answer sw words text ≡ Ok (record { counts = counts; heights = Some h }) → reading sw words text ≡ taken tree
        → (u : ℕ) × (l : List ℕ) × (measured_in tree ≡ u ∷ l) × (counts.measured ≡ length (u ∷ l)) × Floats h u l
    pub none_measured : (counts : Counts) (tree : Tree) → answer sw words text ≡ Ok (record { counts = counts; heights = None }) → reading sw words text ≡ taken tree
        → (measured_in tree ≡ []) × (counts.measured ≡ 0)

unfoldable pub HeightsHeld : Type 0
HeightsHeld = (sw : Switches) (words : ℕ) (text : List ℕ) → HeightsIn sw words text

-- a height that is null, absent or unfit is in no mean: the measured heights are the same without it
unfoldable pub MissingApart : Type 0
MissingApart = (hs ks : List Height) (h : Height) → is_measured h ≡ false → measured_heights (hs ++ (h ∷ ks)) ≡ measured_heights (hs ++ ks)

-- ---- the call for C and Rust

-- a call of `duper_summary` with a table of so many words: what was lent for counts and heights, and what it answered and left
pub record SummaryCall (words : ℕ) (text : List ℕ) : Type 0 where
  pub lent_counts : List ℕ
  pub lent_heights : List Float
  pub number : ℕ
  pub counts : List ℕ
  pub heights : List Float
  pub crosses : SummaryCrosses (answer present_edition words text) number lent_counts counts lent_heights heights

-- these say which answer it is: 0 is a summary, which holds heights if the first count isn't 0; else the number is a refusal times 4294967296
-- plus its place
pub record SummaryUnpacked (words : ℕ) (text : List ℕ) (a : SummaryCall words text) : Type 0 where
  pub with_heights : a.number ≡ 0 → 0 < get_or a.counts 0 0
      → (c : Counts) × (h : Heights) × (answer present_edition words text ≡ Ok (record { counts = c; heights = Some h }))
      × (a.counts ≡ c.measured ∷ c.null ∷ c.absent ∷ c.unfit ∷ []) × (a.heights ≡ h.least ∷ h.greatest ∷ h.mean ∷ [])
  pub without : a.number ≡ 0 → get_or a.counts 0 0 ≡ 0
      → (c : Counts) × (answer present_edition words text ≡ Ok (record { counts = c; heights = None }))
      × (a.counts ≡ c.measured ∷ c.null ∷ c.absent ∷ c.unfit ∷ []) × (a.heights ≡ a.lent_heights)
  pub refusal : 0 < a.number
      → (answer present_edition words text ≡ refused_at (a.number / 4294967296) (a.number % 4294967296))
      × (a.counts ≡ a.lent_counts) × (a.heights ≡ a.lent_heights)

unfoldable pub SummariesUnpacked : Type 0
SummariesUnpacked = (words : ℕ) (text : List ℕ) (a : SummaryCall words text) → SummaryUnpacked words text a

-- ---- examples

-- the answer for a text, with room for forty nodes
abbrev pub asked : String → Result Summary Refusal
asked text = answer present_edition 480 (ascii text)

-- so many measured, null, absent and unfit
abbrev pub four_counts : (measured null absent unfit : ℕ) → Counts
four_counts measured null absent unfit = record { measured = measured; null = null; absent = absent; unfit = unfit }

-- one record whose height is so many micrometres, by the bits of the float
abbrev pub one : (bits : ℕ) → Result Summary Refusal
one bits = Ok (record { counts = (four_counts 1 0 0 0); heights = Some (record { least = of_bits binary64 bits; greatest = of_bits binary64 bits; mean = of_bits binary64 bits }) })

-- one whose height is null, absent or unfit
abbrev pub one_null : Result Summary Refusal
one_null = Ok (record { counts = (four_counts 0 1 0 0); heights = None })

abbrev pub one_absent : Result Summary Refusal
one_absent = Ok (record { counts = (four_counts 0 0 1 0); heights = None })

abbrev pub one_unfit : Result Summary Refusal
one_unfit = Ok (record { counts = (four_counts 0 0 0 1); heights = None })

pub record SummariesByHand : Type 0 where
  -- "0.250e1 is 2.5, and -0.0 is 0"
  pub with_exponent : asked "[{height_mm:0.250e1}]" ≡ one 0x40a3880000000000
  pub plain : asked "[{height_mm:2.5}]" ≡ one 0x40a3880000000000
  pub minus_0 : asked "[{height_mm:-0.0}]" ≡ one 0
  -- "an exact whole number of micrometres from 0 to 10,000,000"
  pub integer : asked "[{height_mm:10000}]" ≡ one 0x416312d000000000
  pub power : asked "[{height_mm:1e4}]" ≡ one 0x416312d000000000
  pub hex : asked "[{height_mm:0x2710}]" ≡ one 0x416312d000000000
  pub one_micrometre : asked "[{height_mm:0.001}]" ≡ one 0x3ff0000000000000
  pub zero_to_a_power : asked "[{height_mm:0e400}]" ≡ one 0
  pub too_great : asked "[{height_mm:10000.001}]" ≡ one_unfit
  pub far_too_great : asked "[{height_mm:9223372036854775807e400}]" ≡ one_unfit
  pub half_a_micrometre : asked "[{height_mm:0.0005}]" ≡ one_unfit
  pub far_too_small : asked "[{height_mm:9223372036854775807e-400}]" ≡ one_unfit
  pub below_0 : asked "[{height_mm:-0.001}]" ≡ one_unfit
  pub integer_below_0 : asked "[{height_mm:-1}]" ≡ one_unfit
  -- "unfit (anything else)"
  pub text : asked "[{height_mm:\"5\"}]" ≡ one_unfit
  pub false_value_law : asked "[{height_mm:false}]" ≡ one_unfit
  pub array : asked "[{height_mm:[5]}]" ≡ one_unfit
  -- "null, absent"
  pub null_height : asked "[{height_mm:null}]" ≡ one_null
  pub no_key : asked "[{}]" ≡ one_absent
  pub other_key : asked "[{height:5,Height_mm:6}]" ≡ one_absent
  pub further_in : asked "[{a:{height_mm:5}}]" ≡ one_absent
  -- the key by its content
  pub key_by_content : asked "[{\"height\\x5Fmm\":5}]" ≡ one 0x40b3880000000000
  -- "identifiers ignored"
  pub identified : asked "A([B({height_mm:C(5)})])" ≡ one 0x40b3880000000000
  pub identified_null : asked "[{height_mm:Lost(null)}]" ≡ one_null
  -- no record at all
  pub empty : asked "[]" ≡ Ok (record { counts = (four_counts 0 0 0 0); heights = None })
  -- "missing heights counted apart from measured ones": 12 mm, 9 mm and 0 make 7 mm, and the nulls change nothing
  pub season : asked "[{height_mm:12},{height_mm:null},{height_mm:9},{},{height_mm:0},{height_mm:null},{height_mm:\"n/a\"}]"
      ≡ Ok (record { counts = (four_counts 3 2 1 1); heights = Some (record { least = of_bits binary64 0; greatest = of_bits binary64 0x40c7700000000000; mean = of_bits binary64 0x40bb580000000000 }) })
  -- "The mean is the exact sum as a float divided once": 0.1, 0.2 and 0.3 mm make 200 micrometres; as floats of millimetres, added up one by
  -- one, they would make 0x4069000000000001
  pub exact_sum : asked "[{height_mm:0.1},{height_mm:0.2},{height_mm:0.3}]"
      ≡ Ok (record { counts = (four_counts 3 0 0 0); heights = Some (record { least = of_bits binary64 0x4059000000000000; greatest = of_bits binary64 0x4072c00000000000; mean = of_bits binary64 0x4069000000000000 }) })
  -- 4 / 3
  pub rounded_mean : asked "[{height_mm:0.001},{height_mm:0.001},{height_mm:0.002}]"
      ≡ Ok (record { counts = (four_counts 3 0 0 0); heights = Some (record { least = of_bits binary64 0x3ff0000000000000; greatest = of_bits binary64 0x4000000000000000; mean = of_bits binary64 0x3ff5555555555555 }) })
  -- "A root of another shape, or an element that isn't an object, is refused .. with 21 and the node's number, the smallest such"
  pub object_root : asked "{height_mm:5}" ≡ refused_at 21 0
  pub tuple_root : asked "({height_mm:5})" ≡ refused_at 21 0
  pub number_element : asked "[5]" ≡ refused_at 21 1
  pub array_element : asked "[[{height_mm:5}]]" ≡ refused_at 21 1
  pub first_of_two : asked "[{a:[1],height_mm:5},2,null]" ≡ refused_at 21 5
  -- "after 1 to 10"
  pub refused_text : asked "[5" ≡ refused_at 7 2
  pub doubled_key : asked "[5,{height_mm:1,\"height\\x5Fmm\":2}]" ≡ refused_at 8 16
  pub no_room : answer present_edition 12 (ascii "[{}]") ≡ refused_at 10 1
