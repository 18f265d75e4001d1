-- The parts of a word, read one after another. What is read of all parts is what was read of those before a place, in
-- front of what is read of the rest. A part that can't be read, or one part too many, decides the whole, whatever
-- stands behind it.
use Rattle.std.proofs.Common.{◌≡◌, ℕ, ◌+◌, ◌<◌, ◌≤◌, Bool, false, if◌then◌else◌, List, [], ◌∷◌, ◌++◌, length, get_or, drop, Option, None, Some, option_map, refl, sym, ap, ◌∙◌, append_assoc}
use Rattle.std.proofs.lemmas.List.{append-nil, drop_more, at_drop_all}
use Rattle.pop_words.specs.Values.{cons_some, all_some, only_if}

-- values in front of those that are read behind them
abbrev pub in_front : {Y : Type 0} → List Y → Option (List Y) → Option (List Y)
in_front front read = option_map (λ ys. front ++ ys) read

-- what is read of all parts is the front, before what is read from a place on
pub record HasRead {X Y : Type 0} (f : X → Option Y) (parts : List X) (n : ℕ) (front : List Y) : Type 0 where
  pub whole : all_some f parts ≡ in_front front (all_some f (drop n parts))

-- the front, before a part and what is read behind it
step : {Y : Type 0} (front : List Y) (y : Y) (read : Option (List Y))
    → in_front front (cons_some (Some y) read) ≡ in_front (front ++ y ∷ []) read
step front y None = refl
step front y (Some ys) = ap Some (sym (append_assoc front (y ∷ []) ys))

-- what is read from a place on begins with what is read of the part there
at_part : {X Y : Type 0} (f : X → Option Y) (parts : List X) (n : ℕ) (part : X) → n < length parts
    → part ≡ get_or parts n part
    → all_some f (drop n parts) ≡ cons_some (f part) (all_some f (drop (n + 1) parts))
at_part f parts n part within is =
    ap (all_some f) (drop_more parts n part within) ∙ ap (λ x. cons_some (f x) (all_some f (drop (n + 1) parts)))
    (sym is)

-- one part more is read
pub read_more : {X Y : Type 0} (f : X → Option Y) (parts : List X) (n : ℕ) (front : List Y) (part : X) (y : Y)
    → HasRead f parts n front
    → n < length parts → part ≡ get_or parts n part → f part ≡ Some y → HasRead f parts (n + 1) (front ++ y ∷ [])
read_more f parts n front part y before within is some =
    record {
      whole = before.whole
          ∙ ap (in_front front) (at_part f parts n part within is
          ∙ ap (λ r. cons_some r (all_some f (drop (n + 1) parts))) some)
          ∙ step front y (all_some f (drop (n + 1) parts));
    }

-- a part that can't be read
pub none_of_all : {X Y : Type 0} (f : X → Option Y) (parts : List X) (n : ℕ) (front : List Y) (part : X)
    → HasRead f parts n front
    → n < length parts → part ≡ get_or parts n part → f part ≡ None → all_some f parts ≡ None
none_of_all f parts n front part before within is none =
    before.whole ∙ ap (in_front front) (at_part f parts n part within is
    ∙ ap (λ r. cons_some r (all_some f (drop (n + 1) parts))) none)

-- all parts are read
pub read_all : {X Y : Type 0} (f : X → Option Y) (parts : List X) (n : ℕ) (front : List Y) → HasRead f parts n front
    → length parts ≤ n → all_some f parts ≡ Some front
read_all f parts n front before past =
    before.whole ∙ ap (in_front front) (at_drop_all (all_some f) parts n past) ∙ ap Some (append-nil front)

-- where each list that has y behind the front fails a test, nothing passes it
fails : {Y : Type 0} (test : List Y → Bool) (front : List Y) (y : Y) (read : Option (List Y))
    → ((ys : List Y) → test (front ++ y ∷ ys) ≡ false) → only_if test
    (in_front front (cons_some (Some y) read)) ≡ None
fails test front y None none = refl
fails test front y (Some ys) none = ap (λ b. if b then Some (front ++ y ∷ ys) else None) (none ys)

-- a part that is one too many
pub none_passes : {X Y : Type 0} (f : X → Option Y) (parts : List X) (n : ℕ) (front : List Y) (part : X) (y : Y)
    (test : List Y → Bool)
    → HasRead f parts n front → n < length parts → part ≡ get_or parts n part → f part ≡ Some y
    → ((ys : List Y) → test (front ++ y ∷ ys) ≡ false) → only_if test (all_some f parts) ≡ None
none_passes f parts n front part y test before within is some none =
    ap (only_if test) (before.whole
    ∙ ap (in_front front) (at_part f parts n part within is
    ∙ ap (λ r. cons_some r (all_some f (drop (n + 1) parts))) some))
    ∙ fails test front y (all_some f (drop (n + 1) parts)) none
