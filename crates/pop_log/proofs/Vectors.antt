-- Worked values, so that a wrong layer, token, number or place is found.
use Rattle.std.proofs.Common.{inl, ◌≡◌, ℕ, suc, ◌+◌, ◌<◌, List, [], ◌∷◌, ◌++◌, length, map, get_or, lit<, refl, ap, ◌∙◌, arith, codes}
use Rattle.std.specs.Fmt.{decimal, digits}
use Rattle.std.specs.List.{zip}
use Rattle.pop_model.specs.Text.{line}
use Rattle.pop_model.specs.Stacks.Origin.{Given}
use Rattle.pop_model.specs.Popping.{Cube, variables, cursor}
use Rattle.pop_model.specs.Families.{Family}
use Rattle.pop_model.specs.Families.Family.{Listed, Cycles}
use Rattle.pop_model.specs.Instances.{Instance}
use Rattle.pop_model.specs.Logs.{LogRecord, entries_at}
use Rattle.pop_log.specs.declared.names.Names.TheVariants.{Plain, Tree}
use Rattle.pop_log.specs.declared.log_version.LogVersion.{LogVersion}
use Rattle.pop_log.specs.declared.log_version.LogVersion.TheVariants.{Ordered, Layered}
use Rattle.pop_log.specs.Layers.{Placed, AreLayers}
use Rattle.pop_log.specs.Layered.{IsFirstUnlayered}
use Rattle.pop_log.specs.LogTexts.{log_text}
use Rattle.pop_log.specs.LayeredTexts.{Written, placed_text}
use Rattle.pop_log.specs.LogVersions.{head_of, line_of, MayStart}
use Rattle.pop_log.specs.Refusals.{IsMalformedAt, IsFirstIllegal}
use Rattle.pop_log.specs.Printed.{Printed, name_of}
use Rattle.pop_log.proofs.LayersLemmas.{layers_are}

-- a pop of a cube under a unit, with these entries
abbrev pop_of : ℕ → Cube → List ℕ → LogRecord
pop_of unit cube entries = record { event = record { unit = unit; cube = cube }; entries = entries }

-- two events on one variable each: the first is popped twice, and then the second
abbrev three : List LogRecord
three = pop_of 0 ((0, 0) ∷ []) (0 ∷ []) ∷ pop_of 0 ((0, 0) ∷ []) (1 ∷ []) ∷ pop_of 1 ((1, 0) ∷ []) (0 ∷ []) ∷ []

-- the second waits for the first, and the third for none
layers_of_three : AreLayers three (1 ∷ 2 ∷ 1 ∷ [])
layers_of_three = layers_are [] three

-- the clauses `1 2 0`, `3 4 0` and `2 3 0`, popped in this order
abbrev chain : List LogRecord
chain =
    pop_of 0 ((0, 0) ∷ (1, 0) ∷ []) (0 ∷ 0 ∷ []) ∷ pop_of 1 ((2, 0) ∷ (3, 0) ∷ []) (0 ∷ 0 ∷ [])
    ∷ pop_of 2 ((1, 0) ∷ (2, 0) ∷ []) (1 ∷ 1 ∷ []) ∷ []

-- the third waits for both others
layers_of_chain : AreLayers chain (1 ∷ 1 ∷ 2 ∷ [])
layers_of_chain = layers_are [] chain

-- an instance of this family, whose stacks don't matter
abbrev with_family : Family → Instance
with_family family = record { stacks = record { origin = Given []; weights = [] }; family = family }

-- the clauses `1 0`, `1 0` and `2 0`, of which the second repeats the first
abbrev two_clauses : Instance
two_clauses = with_family (Listed ((1, (0, 0) ∷ []) ∷ (3, (1, 0) ∷ []) ∷ []))

-- their text: the second event has number 3
text_of_three : log_text Plain two_clauses three ≡ codes "log 1 3\npop 1 1:0\npop 1 1:1\npop 3 2:0\n"
unfolding digits
text_of_three = refl

-- the cycle of the vertices 2 and 3 in a tree with root 1
abbrev triangle : Instance
triangle = with_family (Cycles [])

-- its text has the names of the vertices
text_of_cycle : log_text (Tree 1) triangle (pop_of 0 ((0, 1) ∷ (1, 0) ∷ []) (0 ∷ 0 ∷ []) ∷ [])
    ≡ codes "log 1 1\npop 2 2:0 3:0\n"
unfolding digits
text_of_cycle = refl

-- the text of no record
text_of_none : log_text Plain two_clauses [] ≡ codes "log 1 0\n"
unfolding digits
text_of_none = refl

-- refusals, on the instance of the clause `1 0` with the stack 0, 0, 1
abbrev one_clause : Instance
one_clause =
    record {
      stacks = record { origin = Given ((0 ∷ 0 ∷ 1 ∷ []) ∷ []); weights = (1 ∷ 1 ∷ []) ∷ [] };
      family = Listed ((1, (0, 0) ∷ []) ∷ []);
    }

-- nothing at all: the first line is missing
no_bytes : IsMalformedAt Plain one_clause.family [] 1
no_bytes =
    record {
      outside = λ (version, ws, are). none version ws are.lines_are;
      place = (0, refl, omega arith, tt);
      bad = λ h. absurd (omega arith);
    }
  where
    none : (version : LogVersion) (ws : List Written) → [] ≡ head_of version (length ws) ∷ map (line_of version) ws → ⊥
    none version ws same = cc

-- the last of some bytes
last_byte : List ℕ → ℕ
last_byte [] = 0
last_byte (b ∷ []) = b
last_byte (b ∷ c ∷ bs) = last_byte (c ∷ bs)

-- which is one that is put behind them
last_of_push : (l : List ℕ) (b : ℕ) → last_byte (l ++ b ∷ []) ≡ b
unfolding last_byte
last_of_push [] b = refl
last_of_push (x ∷ []) b = refl
last_of_push (x ∷ y ∷ l) b = last_of_push (y ∷ l) b

-- a first line ends with the end of a line
head_ends : (version : LogVersion) (n : ℕ) → last_byte (head_of version n) ≡ 10
head_ends Ordered n = last_of_push (codes "log 1 " ++ decimal n) 10
head_ends Layered n = last_of_push (codes "log 2 " ++ decimal n) 10

-- a first line that isn't ended is no line
not_ended : IsMalformedAt Plain one_clause.family (codes "log 1 2") 1
unfolding last_byte
not_ended =
    record {
      outside = λ (version, ws, are). ends version (length ws) (ap first are.lines_are);
      place = (0, refl, omega arith, tt);
      bad = λ h start. ends start.version start.said (start.head);
    }
  where
    first : List (List ℕ) → List ℕ
    first [] = []
    first (l ∷ ls) = l

    ends : (version : LogVersion) (n : ℕ) → codes "log 1 2" ≡ head_of version n → ⊥
    ends version n same =
        let last : 50 ≡ suc 9 = ap last_byte same ∙ head_ends version n in
        omega (arith, last)

-- the second line is missing, also where the instance has no event that could stand there
missing_record : (family : Family) → IsMalformedAt Plain family (line (codes "log 1 5")) 2
unfolding digits
missing_record family =
    record {
      outside = λ (version, ws, are). none version ws are.lines_are;
      place = (1, refl, omega arith, first_alone);
      bad = λ h. absurd (omega arith);
    }
  where
    first_alone : MayStart Plain family (line (codes "log 1 5")) []
    first_alone =
        record {
          version = Ordered;
          said = 5;
          count = lit< tt;
          head = refl;
          ws = [];
          lines_are = refl;
          records = tt;
          few = omega arith;
        }

    byte_at : ℕ → List (List ℕ) → ℕ
    byte_at k [] = 0
    byte_at k (l ∷ ls) = get_or l k 0

    none : (version : LogVersion) (ws : List Written)
        → line (codes "log 1 5") ∷ [] ≡ head_of version (length ws) ∷ map (line_of version) ws → ⊥
    none Ordered [] same = let first : 53 ≡ suc 47 = ap (byte_at 6) same in omega (arith, first)
    none Layered [] same = let first : 49 ≡ suc 49 = ap (byte_at 4) same in omega (arith, first)
    none version (w ∷ ws) same = cc

-- an entry that isn't the current one
wrong_entry : IsFirstIllegal Plain one_clause (record { number = 1; pairs = (1, 1) ∷ [] } ∷ []) 0
wrong_entry =
    record {
      log = [];
      p = record { number = 1; pairs = (1, 1) ∷ [] };
      rest = [];
      records_are = refl;
      place = refl;
      legal = tt;
      illegal = λ r legal same. none r.event.cube r.entries legal.entries (ap (λ (q : Printed). q.pairs) same);
    }
  where
    none : (e : Cube) (entries : List ℕ) → entries ≡ entries_at (0 ∷ []) e
        → zip (map (name_of Plain) (variables e)) entries ≡ (1, 1) ∷ [] → ⊥
    none [] entries are same = cc
    none (p ∷ e) [] are same = cc
    none (p ∷ e) (k ∷ entries) are same =
        let first : ◌≡◌ {A = ℕ × ℕ} (p.0 + 1, k) (1, 1) = cc in
        let name : p.0 + 1 ≡ 1 = ap (λ (q : ℕ × ℕ). q.0) first in
        let entry : k ≡ 1 = ap (λ (q : ℕ × ℕ). q.1) first in
        let zero_v : p.0 ≡ 0 = omega (arith, name) in
        let current : k ≡ cursor (0 ∷ []) p.0 = cc in
        let none' : cursor (0 ∷ []) p.0 ≡ 0 = ap (cursor (0 ∷ [])) zero_v in
        omega (arith, entry, current, none')

-- the layered log of the clauses `1 0` and `2 0`, of which the first is popped twice
abbrev layered_three : List Placed
layered_three =
    (pop_of 0 ((0, 0) ∷ []) (0 ∷ []), 1) ∷ (pop_of 1 ((1, 0) ∷ []) (0 ∷ []), 1)
    ∷ (pop_of 0 ((0, 0) ∷ []) (1 ∷ []), 2) ∷ []

-- each line of its text has the layer and the number of the event
text_of_layered : placed_text Plain (with_family (Listed ((1, (0, 0) ∷ []) ∷ (2, (1, 0) ∷ []) ∷ []))) layered_three
    ≡ codes "log 2 3\npop 1 1 1:0\npop 1 2 2:0\npop 2 1 1:1\n"
unfolding digits
text_of_layered = refl

-- two pops of one event that are both said to stand in layer 1: the second is the first unlayered record
wrong_layer : IsFirstUnlayered ((pop_of 0 ((0, 0) ∷ []) (0 ∷ []), 1) ∷ (pop_of 0 ((0, 0) ∷ []) (1 ∷ []), 1) ∷ []) 1
wrong_layer =
    record {
      front = (pop_of 0 ((0, 0) ∷ []) (0 ∷ []), 1) ∷ [];
      p = (pop_of 0 ((0, 0) ∷ []) (1 ∷ []), 1);
      rest = [];
      placed_are = refl;
      place = refl;
      in_layers = (
        record {
          layer = record { reached = inl refl; greatest = λ q z (k, within, at) depend. absurd (omega (arith, within)) };
          order = λ front q same. absurd (none front q same);
        },
        tt,
      );
      unlayered = λ follows.
          let less : 1 < 1 = follows.layer.greatest (pop_of 0 ((0, 0) ∷ []) (0 ∷ [])) 1 (0, omega arith, refl)
          (0, 0, 0, (0, omega arith, refl), (0, omega arith, refl)) in
          omega (arith, less);
    }
  where
    none : (front : List Placed) (q : Placed) → ◌≡◌ {A = List Placed} [] (front ++ q ∷ []) → ⊥
    none [] q same = cc
    none (x ∷ front) q same = cc
