-- A log text is read record by record: either all records so far are printed from a legal log, or the one after it is
-- the first that is not legal. Numbers that may be printed have 32 bits, so tokens are those of one record.
use Rattle.std.proofs.Common.{◌≡◌, ℕ, ◌+◌, ◌^◌, ◌<◌, ◌≤◌, Bool, true, false, List, [], ◌∷◌, ◌++◌, length, map, Option, None, Some, MatchOption, get_or, refl, sym, ap, subst, ◌∙◌, arith, append_assoc, length-append, All, inl, inr, codes, decimal, if◌then◌else◌}
use Rattle.std.specs.List.{AllByRecursion}
use Rattle.std.proofs.lemmas.Bool.{cases_lt, lt-ltb, le-ltb}
use Rattle.std.proofs.lemmas.List.{length-map, get_or-map, map-append}
use Rattle.std.proofs.lemmas.List.Elements.{recursion_from_All, All-map}
use Rattle.pop_model.specs.Stacks.{variables_of}
use Rattle.pop_model.specs.Popping.{Cube, AreWithin, pop}
use Rattle.pop_model.specs.Families.{Family, units_of}
use Rattle.pop_model.specs.Families.Family.{Listed, Cycles}
use Rattle.pop_model.specs.Instances.{Instance, IsInstance, FamilyFits, FitsStacks}
use Rattle.pop_model.specs.Logs.{LogRecord, IsLegalAt, IsLegal, replay}
use Rattle.pop_model.specs.Runs.{start_of}
use Rattle.pop_model.proofs.Members.{all_at}
use Rattle.pop_stacks.specs.Readers.{Belongs, ReaderOf}
use Rattle.pop_log.specs.declared.names.Names.{Names}
use Rattle.pop_log.specs.declared.names.Names.TheVariants.{Plain, Tree}
use Rattle.pop_log.specs.Printed.{Printed, printed, name_of, joined, words_line, MayBePrinted, HasVariables}
use Rattle.pop_log.specs.LogTexts.{record_line}
use Rattle.pop_log.specs.Refusals.{IsFirstIllegal}
use Rattle.pop_log.specs.declared.progress.Progress.{Progress}
use Rattle.pop_log.specs.PrintedWords.{PairFits, FitsWords}
use Rattle.pop_log.specs.Candidates.{NumbersFit, IsCandidate}
use Rattle.pop_log.specs.Reading.{IsReplayed, HasRead, Adds, Takes}
use Rattle.confluence_core.proofs.LegalLogs.{legal_push, replay_push}
use Rattle.pop_log.proofs.LogTextsLemmas.{Fits64, PairFits as PairFits64, pairs_text, records_same}

-- names of variables have 32 bits
name_small : (names : Names) (v : ℕ) → v < 2 ^ 31 → name_of names v < 2 ^ 32
name_small Plain v small = omega (arith, small)
name_small (Tree root) v small =
    elim (cases_lt (v + 1) root) as (λ _. name_of (Tree root) v < 2 ^ 32) [
      | inl less ↦ let e : name_of (Tree root) v ≡ v + 1 = ap (λ b. if b then v + 1 else v + 2)
          (lt-ltb (v + 1) root less) in omega (arith, e, small)
      | inr most ↦ let e : name_of (Tree root) v ≡ v + 2 = ap (λ b. if b then v + 1 else v + 2)
          (le-ltb (v + 1) root most) in omega (arith, e, small)
    ]

-- the variables that may be printed behind an event's number are below 2^31, and the number has 32 bits
variables_small : (names : Names) (i : Instance) → IsInstance i → NumbersFit i.family → (number : ℕ) (vs : List ℕ)
    → HasVariables names i.family number vs
    → (number < 2 ^ 32) × All (λ v. v < 2 ^ 31) vs
variables_small names i is numbers number vs has = small i.family is.fits is.units numbers has
  where
    small : (family : Family) → FamilyFits i.stacks family → units_of family < 2 ^ 31 → NumbersFit family
        → HasVariables names family number vs
        → (number < 2 ^ 32) × All (λ v. v < 2 ^ 31) vs
    small (Listed rows) fits units numbers (unit, e, at, same) = (
      all_at (λ (r : ℕ × Cube). r.0 < 2 ^ 32) rows unit (number, e) at numbers,
      (let fit = all_at (λ (r : ℕ × Cube). FitsStacks i.stacks r.1) rows unit (number, e) at fits in
          let short = is.table.count in
          subst (All (λ v. v < 2 ^ 31)) (sym same)
          (All-map (λ v. v < 2 ^ 31) (λ (q : ℕ × ℕ). q.0) e
          (λ k d within. let below = (fit k d within).0 in omega (arith, below, short)))),
    )
    small (Cycles heads) fits units numbers (some, rising, below, same) = (
      (let first = name_small names (get_or vs 0 0) (let less = below 0 0 some in omega (arith, less, units)) in
          omega (arith, first, same)),
      λ k d within. let less = below k d within in omega (arith, less, units),
    )

-- what may be printed has numbers of 32 bits
pub may_fits : (names : Names) (i : Instance) → IsInstance i → NumbersFit i.family → (p : Printed)
    → MayBePrinted names i.family p → FitsWords p
may_fits names i is numbers p may =
    let small = variables_small names i is numbers p.number may.vs may.variables_are in
    let one = length-map p.pairs (λ (q : ℕ × ℕ). q.0) in
    let two = length-map may.vs (name_of names) in
    let three = ap length may.names_are in (
      small.0,
      recursion_from_All PairFits p.pairs (λ k d within.
          let inside : k < length may.vs = omega (arith, one, two, three, within) in
          let here = sym (get_or-map (λ (q : ℕ × ℕ). q.0) p.pairs k d 0 within)
          ∙ ap (λ (l : List ℕ). get_or l k 0) may.names_are
          ∙ get_or-map (name_of names) may.vs k 0 0 inside in
          let name = name_small names (get_or may.vs k 0) (small.1 k 0 inside) in
          (omega (arith, here, name), may.entries_fit k d within)),
    )

-- numbers of 32 bits have 64
pub fits_wide : (p : Printed) → FitsWords p → Fits64 p
fits_wide p fits = ((let small = fits.0 in omega (arith, small)), wide p.pairs fits.1)
  where
    wide : (ps : List (ℕ × ℕ)) → AllByRecursion PairFits ps → AllByRecursion PairFits64 ps
    wide [] fit = tt
    wide (q ∷ ps) fit = let one = fit.0.0 in let two = fit.0.1 in
        ((omega (arith, one), omega (arith, two)), wide ps fit.1)

-- words are those of one record
pub words_once : (p q : Printed) → FitsWords p → FitsWords q → words_line p ≡ words_line q → p ≡ q
words_once p q fits fits' same =
    let lines : record_line p ≡ record_line q = ap (λ (l : List ℕ). codes "pop " ++ l) same in
    let both : p ∷ [] ≡ q ∷ [] = records_same (p ∷ []) (q ∷ []) (fits_wide p fits, tt) (fits_wide q fits', tt)
    (ap (λ (l : List ℕ). l ++ []) lines) in
    cc

-- there are no more pairs than bytes in the words
pub pairs_few : (l : List ℕ) (p : Printed) → l ≡ words_line p → length p.pairs ≤ length l
pairs_few l p is =
    let few = text_long p.pairs in
    let one = ap length is in
    let two = length-append (decimal p.number ++ pairs_text p.pairs) (10 ∷ []) in
    let three = length-append (decimal p.number) (pairs_text p.pairs) in
    omega (arith, few, one, two, three)
  where
    text_long : (ps : List (ℕ × ℕ)) → length ps ≤ length (pairs_text ps)
    text_long [] = omega arith
    text_long (q ∷ ps) =
        let rest = text_long ps in
        let sum = length-append (joined 58 q) (pairs_text ps) in
        omega (arith, rest, sum)

-- the words are no record's, since no record with its numbers may be printed
pub no_record_may : (names : Names) (i : Instance) (l : List ℕ) (q : Printed) → IsInstance i → NumbersFit i.family
    → FitsWords q → l ≡ words_line q
    → (MayBePrinted names i.family q → ⊥) → (p : Printed) → MayBePrinted names i.family p → l ≡ words_line p → ⊥
no_record_may names i l q is numbers fits line none p may same =
    let one : p ≡ q = words_once p q (may_fits names i is numbers p may) fits (sym same ∙ line) in
    none (subst (MayBePrinted names i.family) one may)

-- a record more behind the first that isn't legal
illegal_more : (names : Names) (i : Instance) (ps : List Printed) (k : ℕ) (p : Printed) → IsFirstIllegal names i ps k
    → IsFirstIllegal names i (ps ++ p ∷ []) k
illegal_more names i ps k p old = record {
  log = old.log;
  p = old.p;
  rest = old.rest ++ p ∷ [];
  records_are = ap (λ (l : List Printed). l ++ p ∷ []) old.records_are
      ∙ append_assoc (map (printed names i.family) old.log) (old.p ∷ old.rest) (p ∷ []);
  place = old.place;
  legal = old.legal;
  illegal = old.illegal;
}

-- what was read goes on with a record that is added
pub reads_on : (names : Names) (i : Instance) (c : List ℕ) (p : Printed) (r : LogRecord)
    (log new_log : List LogRecord) (stopped new_stopped : Bool)
    → IsLegal i (start_of i) log → c ≡ replay (start_of i) log → IsCandidate names i c p r
    → Adds i c r log stopped new_log new_stopped
    → (ps : List Printed) → HasRead names i ps log stopped → HasRead names i (ps ++ p ∷ []) new_log new_stopped
reads_on names i c p r log new_log true new_stopped legal at only adds ps read =
    let more = illegal_more names i ps (length log) p read in
    let same = subst (λ (l : List LogRecord). IsFirstIllegal names i (ps ++ p ∷ []) (length l)) (sym adds.0) more in
    subst (HasRead names i (ps ++ p ∷ []) new_log) (sym adds.1) same
reads_on names i c p r log new_log false true legal at only adds ps read =
    subst (λ (l : List LogRecord). IsFirstIllegal names i (ps ++ p ∷ []) (length l)) (sym adds.1) (record {
      log = log;
      p = p;
      rest = [];
      records_are = ap (λ (l : List Printed). l ++ p ∷ []) read;
      place = refl;
      legal = legal;
      illegal = λ q legal' same.
          let there : IsLegalAt i c q = subst (λ d. IsLegalAt i d q) (sym at) legal' in
          adds.0 (subst (IsLegalAt i c) (only.only q there same) there);
    })
reads_on names i c p r log new_log false false legal at only adds ps read =
    ap (λ (l : List Printed). l ++ p ∷ []) read
    ∙ ap (λ (q : Printed). map (printed names i.family) log ++ q ∷ []) (sym only.printed_is)
    ∙ sym (map-append (printed names i.family) log (r ∷ [])) ∙ ap (map (printed names i.family)) (sym adds.1)

-- a legal record behind a log
pub replayed_push : (i : Instance) (s : Progress) (r : LogRecord) (log : List LogRecord) (cursors : List ℕ)
    (reader : ReaderOf) → IsReplayed i s → IsLegalAt i s.cursors r
    → log ≡ s.log ++ r ∷ [] → cursors ≡ pop s.cursors r.event.cube → variables_of i.stacks ≡ length cursors
    → AreWithin i.stacks cursors → reader ≡ s.reader
    → IsReplayed i (record { log = log; cursors = cursors; reader = reader; stopped = s.stopped })
replayed_push i s r log cursors reader old legal pushed popped count within same =
    let start : List ℕ = start_of i in
    record {
      legal = subst (IsLegal i start) (sym pushed)
          (legal_push i start s.log r old.legal (subst (λ c. IsLegalAt i c r) old.cursors_are legal));
      cursors_are = popped ∙ ap (λ c. pop c r.event.cube) old.cursors_are ∙ sym (replay_push start s.log r)
          ∙ ap (replay start) (sym pushed);
      count = count;
      within = within;
      reader = subst (Belongs i.stacks) (sym same) old.reader;
    }

-- what words were read to be
abbrev pub WasRead : List ℕ → Option Printed → Type 0
WasRead l found = MatchOption found ((p : Printed) → FitsWords p → l ≡ words_line p → ⊥)
    (λ p. FitsWords p × (l ≡ words_line p))

-- what was found where this is printed
abbrev pub WasFound : Names → Instance → List ℕ → Printed → Option LogRecord → Type 0
WasFound names i c p found = MatchOption found (MayBePrinted names i.family p → ⊥) (IsCandidate names i c p)

-- the words are no record's
pub nothing_read : (names : Names) (i : Instance) (l : List ℕ) (found : Option Printed) → IsInstance i
    → NumbersFit i.family → found ≡ None → WasRead l found
    → (p : Printed) → MayBePrinted names i.family p → l ≡ words_line p → ⊥
nothing_read names i l found is numbers none read p may same =
    subst (WasRead l) none read p (may_fits names i is numbers p may) same

-- no record may be printed so
pub nothing_found : (names : Names) (i : Instance) (l c : List ℕ) (q : Printed) (found : Option LogRecord)
    → IsInstance i → NumbersFit i.family
    → FitsWords q × (l ≡ words_line q) → found ≡ None → WasFound names i c q found → (p : Printed)
    → MayBePrinted names i.family p → l ≡ words_line p → ⊥
nothing_found names i l c q found is numbers read none was p may same =
    no_record_may names i l q is numbers read.0 read.1 (subst (WasFound names i c q) none was) p may same

-- the words are those of a record, which is added
pub takes_record : (names : Names) (i : Instance) (l : List ℕ) (s t : Progress) (p : Printed) (r : LogRecord)
    (found : Option LogRecord) → IsReplayed i s
    → l ≡ words_line p → found ≡ Some r → WasFound names i s.cursors p found
    → Adds i s.cursors r s.log s.stopped t.log t.stopped → Takes names i l s t true
takes_record names i l s t p r found old line some was adds =
    let only : IsCandidate names i s.cursors p r = subst (WasFound names i s.cursors p) some was in (
      p,
      only.may,
      line,
      reads_on names i s.cursors p r s.log t.log s.stopped t.stopped old.legal old.cursors_are only
          adds,
    )
