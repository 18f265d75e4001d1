-- The text of a batch: that of each end after the number of its sample.
use Rattle.std.specs.Prelude.{◌≡◌, ℕ, ◌-◌, List, ◌++◌, length, slice_get, Some, Vec, flat_map, decimal, codes}
use Rattle.std.specs.List.{enumerate_from, AllZip, range_with_len}
use Rattle.pop_model.specs.Instances.{Instance, instance_for}
use Rattle.pop_model.specs.Text.{line}
use Rattle.confluence_core.specs.declared.end.End.{End}
use Rattle.pop_print.specs.declared.facts.Facts.{Facts}
use Rattle.pop_print.specs.Output.{full_text}

-- the line of the number of samples
abbrev pub batch_line : ℕ → List ℕ
batch_line count = line (codes "batch " ++ decimal count)

-- the line of the number of a sample, from 0
abbrev pub sample_line : ℕ → List ℕ
sample_line j = line (codes "sample " ++ decimal j)

-- the end of a sample after its number, in full
abbrev pub numbered_text : Facts → Instance → ℕ × End → List ℕ
numbered_text facts i p =
    sample_line p.0 ++ full_text facts (instance_for p.0 i) p.1.cursors p.1.pops p.1.stuck

-- the number of samples, and the end of each
abbrev pub batch_text : Facts → Instance → List End → List ℕ
batch_text facts i ends =
    batch_line (length ends) ++ flat_map (numbered_text facts i) (enumerate_from 0 ends)

-- the text is that of the end at a place, with its number
abbrev pub IsOfPlace : Facts → Instance → List End → ℕ → {A : Type 0} → Vec ℕ A → Type 0
IsOfPlace facts i ends j text =
    (p : ℕ × End) → slice_get (enumerate_from 0 ends) j ≡ Some p → text.items ≡ numbered_text facts i p

-- the texts are those of the ends from a place up to, but without, another
abbrev pub AreOfPlaces : Facts → Instance → List End → ℕ → ℕ → {A : Type 0} → List (Vec ℕ A) → Type 0
AreOfPlaces facts i ends from to texts =
    AllZip (λ j text. IsOfPlace facts i ends j text) (range_with_len from (to - from)) texts
