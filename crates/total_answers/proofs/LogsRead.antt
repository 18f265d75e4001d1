-- The text of a log is read as one, or it is refused: its records are legal one after another, or one is the first that
-- isn't; and where layers are said, the records follow in them, or one is the first that doesn't.
use Rattle.std.proofs.Common.{inl, inr, ◌≡◌, ◌⊎◌, ℕ, ◌+◌, ◌^◌, ◌≤◌, List, [], ◌∷◌, ◌++◌, length, map, flat_map, refl, sym, ap, ap₂, subst, ◌∙◌, arith, append_assoc}
use Rattle.std.specs.List.{zip}
use Rattle.std.proofs.lemmas.Bool.{cases_eq, cases_lt}
use Rattle.std.proofs.lemmas.List.{append-nil, length-map, same_from_push}
use Rattle.pop_model.specs.Popping.{pop}
use Rattle.pop_model.specs.Families.{Event, IsEvent}
use Rattle.pop_model.specs.Instances.{Instance}
use Rattle.pop_model.specs.Logs.{LogRecord, IsLegal, IsLegalAt, entries_at, replay}
use Rattle.pop_model.specs.Runs.{start_of}
use Rattle.pop_model.proofs.FirstRun.{poppable_or_not}
use Rattle.pop_log.specs.declared.names.Names.{Names}
use Rattle.pop_log.specs.declared.log_version.LogVersion.{LogVersion}
use Rattle.pop_log.specs.declared.log_version.LogVersion.TheVariants.{Ordered, Layered}
use Rattle.pop_log.specs.declared.log_refusal.LogRefusal.{LogRefusal}
use Rattle.pop_log.specs.declared.log_refusal.LogRefusal.TheVariants.{Limit, Malformed, NotLegal, Unlayered, OutOfMemory}
use Rattle.pop_log.specs.Printed.{Printed, printed}
use Rattle.pop_log.specs.Layers.{Placed, IsLayer}
use Rattle.pop_log.specs.Layered.{AreInLayers, ComesBefore, FollowsInLayers}
use Rattle.pop_log.specs.LayeredTexts.{Written, layered_line, written}
use Rattle.pop_log.specs.LogTexts.{record_line}
use Rattle.pop_log.specs.LogVersions.{head_of, line_of, AreLogLines, IsReadAs}
use Rattle.pop_log.specs.Refusals.{IsFirstIllegal, IsLogRefusal}
use Rattle.pop_log.specs.TextLines.{lines_with_ends}
use Rattle.pop_log.proofs.JoinedLines.{join, join_front, join_lines, join_records}
use Rattle.pop_log.proofs.LayersLemmas.{greatest_layer, is_layer, one_layer}
use Rattle.prs_rounds.proofs.ClosedSets.{IsDecided, decide_both}
use Rattle.total_answers.proofs.Deciding.{Finds, decide_either, decide_lt, known_member, same_lists, same_pair}
use Rattle.total_answers.proofs.LogLines.{formed_or_malformed}
use Rattle.total_answers.proofs.StuckFound.{stuck_found}

-- ---- records

-- what is printed of two records is the same, or not
same_printed : (p q : Printed) → IsDecided (p ≡ q)
same_printed p q = elim (cases_eq p.number q.number) [
  | inr other ↦ inr (λ same. other (ap (λ (x : Printed). x.number) same))
  | inl number ↦ elim (same_lists same_pair p.pairs q.pairs) [
    | inr other ↦ inr (λ same. other (ap (λ (x : Printed). x.pairs) same))
    | inl pairs ↦ inl (ap₂ (λ (n : ℕ) (l : List (ℕ × ℕ)). record { number = n; pairs = l }) number pairs)
  ]
]

-- the record of an event that is popped at these cursors
abbrev popped : List ℕ → Event → LogRecord
popped c e = record { event = e; entries = entries_at c e.cube }

module _ (names : Names) (i : Instance) where
  -- a record that is legal here is printed so
  abbrev IsNext : List ℕ → Printed → LogRecord → Type 0
  IsNext c p r = IsLegalAt i c r × (printed names i.family r ≡ p)

  -- it is found, since its event occurs
  next_found : (c : List ℕ) (p : Printed) → Finds (IsNext c p)
  next_found c p =
      let stuck = stuck_found i c in
      elim (known_member (λ e. IsNext c p (popped c e)) stuck.0 (λ e has. decide e ((stuck.1.exact e).0 has).0)) [
        | inl (e, has, next) ↦ inl (popped c e, next)
        | inr none ↦ inr (λ r (legal, same).
            let is : r ≡ popped c r.event =
            ap (λ (l : List ℕ). let q : LogRecord = record { event = r.event; entries = l } in q) legal.entries in
            none r.event ((stuck.1.exact r.event).1 (legal.event, legal.poppable.occurs))
            (subst (IsNext c p) is (legal, same)))
      ]
    where
      decide : (e : Event) → IsEvent i.family e → IsDecided (IsNext c p (popped c e))
      decide e event = elim (poppable_or_not i.stacks c e.cube) [
        | inr not ↦ inr (λ h. not h.0.poppable)
        | inl poppable ↦ elim (same_printed (printed names i.family (popped c e)) p) [
          | inr other ↦ inr (λ h. other h.1)
          | inl same ↦ inl (record { event = event; poppable = poppable; entries = refl }, same)
        ]
      ]

  -- the records are legal one after another, or one is the first that isn't
  record Illegal (c : List ℕ) (ps : List Printed) : Type 0 where
    log : List LogRecord
    p : Printed
    rest : List Printed
    are : ps ≡ map (printed names i.family) log ++ p ∷ rest
    legal : IsLegal i c log
    illegal : (r : LogRecord) → IsLegalAt i (replay c log) r → printed names i.family r ≡ p → ⊥

  legal_or_not : (ps : List Printed) (c : List ℕ)
      → ((log : List LogRecord) × IsLegal i c log × (map (printed names i.family) log ≡ ps)) ⊎ Illegal c ps
  legal_or_not [] c = inl ([], tt, refl)
  legal_or_not (p ∷ ps) c = elim (next_found c p) [
    | inr none ↦ inr (record {
      log = [];
      p = p;
      rest = ps;
      are = refl;
      legal = tt;
      illegal = λ r legal same. none r (legal, same);
    })
    | inl (r, (legal, same)) ↦ elim (legal_or_not ps (pop c r.event.cube)) [
      | inl (log, more, are) ↦
          inl (r ∷ log, (legal, more), ap₂ (λ (q : Printed) (qs : List Printed). q ∷ qs) same are)
      | inr h ↦ inr (record {
        log = r ∷ h.log;
        p = h.p;
        rest = h.rest;
        are = ap₂ (λ (q : Printed) (qs : List Printed). q ∷ qs) (sym same) h.are;
        legal = (legal, h.legal);
        illegal = h.illegal;
      })
    ]
  ]

  first_illegal : (ps : List Printed) (h : Illegal (start_of i) ps) → IsFirstIllegal names i ps (length h.log)
  first_illegal ps h = record {
    log = h.log;
    p = h.p;
    rest = h.rest;
    records_are = h.are;
    place = refl;
    legal = h.legal;
    illegal = h.illegal;
  }

-- ---- layers

-- a list is empty, or has a last element
record HasLast (before : List Placed) : Type 0 where
  front : List Placed
  last : Placed
  is : before ≡ front ++ last ∷ []

last_of : (before : List Placed) → (before ≡ []) ⊎ HasLast before
last_of [] = inl refl
last_of (p ∷ before) = elim (last_of before) [
  | inl none ↦ inr (record { front = []; last = p; is = ap (λ (l : List Placed). p ∷ l) none })
  | inr h ↦ inr (record { front = p ∷ h.front; last = h.last; is = ap (λ (l : List Placed). p ∷ l) h.is })
]

-- one comes before another, or not
decide_before : (q p : Placed) → IsDecided (ComesBefore q p)
decide_before q p = decide_either _ _ (decide_lt q.1 p.1)
    (decide_both _ _ (cases_eq q.1 p.1) (decide_lt q.0.event.unit p.0.event.unit))

-- no element stands behind none
none_last : (front : List Placed) (q : Placed) → ◌≡◌ {A = List Placed} [] (front ++ q ∷ []) → ⊥
none_last [] q same = cc
none_last (x ∷ front) q same = cc

-- a record follows in layers, or not
decide_follows : (before : List Placed) (p : Placed) → IsDecided (FollowsInLayers before p)
decide_follows before p = elim (cases_eq (greatest_layer before p.0 + 1) p.1) [
  | inr other ↦ inr (λ h.
      other (one_layer before p.0 (greatest_layer before p.0 + 1) p.1 (is_layer before p.0) h.layer))
  | inl same ↦
      let layer : IsLayer before p.0 p.1 = subst (IsLayer before p.0) same (is_layer before p.0) in
      elim (last_of before) [
        | inl none ↦ inl (record {
          layer = layer;
          order = λ front q is. absurd (none_last front q (sym none ∙ is));
        })
        | inr h ↦ elim (decide_before h.last p) [
          | inr not ↦ inr (λ f. not (f.order h.front h.last h.is))
          | inl comes ↦ inl (record {
            layer = layer;
            order = λ front q is.
                let one : h.last ≡ q = (same_from_push h.front front h.last q (sym h.is ∙ is)).1 in
                subst (λ (x : Placed). ComesBefore x p) one comes;
          })
        ]
      ]
]

-- records follow in layers, or one is the first that doesn't
record Unfollowing (before placed : List Placed) : Type 0 where
  front : List Placed
  p : Placed
  rest : List Placed
  are : placed ≡ front ++ p ∷ rest
  in_layers : AreInLayers before front
  not : FollowsInLayers (before ++ front) p → ⊥

layered_or_not : (placed before : List Placed) → AreInLayers before placed ⊎ Unfollowing before placed
layered_or_not [] before = inl tt
layered_or_not (p ∷ placed) before = elim (decide_follows before p) [
  | inr not ↦ inr (record {
    front = [];
    p = p;
    rest = placed;
    are = refl;
    in_layers = tt;
    not = λ f. not (subst (λ (l : List Placed). FollowsInLayers l p) (append-nil before) f);
  })
  | inl follows ↦ elim (layered_or_not placed (before ++ p ∷ [])) [
    | inl rest ↦ inl (follows, rest)
    | inr h ↦ inr (record {
      front = p ∷ h.front;
      p = h.p;
      rest = h.rest;
      are = ap (λ (l : List Placed). p ∷ l) h.are;
      in_layers = (follows, h.in_layers);
      not = λ f.
          h.not (subst (λ (l : List Placed). FollowsInLayers l h.p) (sym (append_assoc before (p ∷ []) h.front)) f);
    })
  ]
]

-- ---- the text

-- the records of written ones
abbrev printed_in : List Written → List Printed
printed_in ws = map (λ w. w.1) ws

-- records under the layers that are said
abbrev said_layers : List LogRecord → List Written → List Placed
said_layers log ws = zip log (map (λ w. w.0) ws)

module _ (names : Names) (i : Instance) where
  -- they are written so
  written_back : (log : List LogRecord) (ws : List Written) → map (printed names i.family) log ≡ printed_in ws
      → (map (written names i.family) (said_layers log ws) ≡ ws) × (map (λ p. p.0) (said_layers log ws) ≡ log)
  written_back [] [] same = (refl, refl)
  written_back [] (w ∷ ws) same = absurd (cc)
  written_back (r ∷ log) [] same = absurd (cc)
  written_back (r ∷ log) (w ∷ ws) same =
      let here : printed names i.family r ≡ w.1 = cc in
      let more : map (printed names i.family) log ≡ printed_in ws = cc in
      let rest = written_back log ws more in (
        ap₂ (λ (p : Printed) (us : List Written). (w.0, p) ∷ us) here rest.0,
        ap (λ (l : List LogRecord). r ∷ l) rest.1,
      )

  -- lines joined
  join_written : (ws : List Written) → join (map layered_line ws) ≡ flat_map layered_line ws
  join_written [] = join_lines []
  join_written (w ∷ ws) =
      join_front (layered_line w) (map layered_line ws)
      ∙ ap (λ (l : List ℕ). layered_line w ++ l) (join_written ws)

  -- lines of version 1 are those of the printed records
  ordered_lines : (ws : List Written) → map (line_of Ordered) ws ≡ map record_line (printed_in ws)
  ordered_lines [] = refl
  ordered_lines (w ∷ ws) = ap (λ (l : List (List ℕ)). record_line w.1 ∷ l) (ordered_lines ws)

  -- the lines of a legal log are those of its text, or a record doesn't follow in layers
  pub read_or_refused : (text : List ℕ)
      → ((log : List LogRecord) × IsReadAs names i text log)
      ⊎ ((cause : LogRefusal) × (cause ≡ OutOfMemory → ⊥) × IsLogRefusal names i text cause)
  read_or_refused text = elim (cases_lt (2 ^ 28) (length text)) [
    | inl long ↦ inr (Limit, (λ is. cc), long)
    | inr short ↦ elim (formed_or_malformed names i.family text) [
      | inr (l, malformed) ↦ inr (Malformed l, (λ is. cc), (short, malformed))
      | inl (version, ws, are) ↦ elim (legal_or_not names i (printed_in ws) (start_of i)) [
        | inr h ↦ inr (
          NotLegal (length h.log),
          (λ is. cc),
          (short, record { version = version; ws = ws; lines = are; first = first_illegal names i (printed_in ws) h }),
        )
        | inl (log, legal, same) ↦ by version ws are short log legal same
      ]
    ]
  ]
    where
      joined : (version : LogVersion) (ws : List Written) → AreLogLines names i.family version (lines_with_ends text) ws
          → text ≡ head_of version (length ws) ++ join (map (line_of version) ws)
      joined version ws are =
          sym (join_lines text) ∙ ap join are.lines_are
          ∙ join_front (head_of version (length ws)) (map (line_of version) ws)

      by : (version : LogVersion) (ws : List Written) → AreLogLines names i.family version (lines_with_ends text) ws
          → length text ≤ 2 ^ 28 → (log : List LogRecord) → IsLegal i (start_of i) log
          → map (printed names i.family) log ≡ printed_in ws
          → ((log : List LogRecord) × IsReadAs names i text log)
          ⊎ ((cause : LogRefusal) × (cause ≡ OutOfMemory → ⊥) × IsLogRefusal names i text cause)
      by Ordered ws are short log legal same =
          let one = length-map log (printed names i.family) in
          let two = length-map ws (λ (w : Written). w.1) in
          let long = ap (λ (l : List Printed). length l) same in
          let size : length ws ≡ length log = omega (arith, one, two, long) in
          inl (
            log,
            inl (record {
              short = short;
              legal = legal;
              text_is = joined Ordered ws are
                  ∙ ap₂ (λ (n : ℕ) (l : List ℕ). head_of Ordered n ++ l) size
                  (ap join (ordered_lines ws ∙ ap (map record_line) (sym same)) ∙ join_records names i.family log);
            }),
          )
      by Layered ws are short log legal same =
          let placed : List Placed = said_layers log ws in
          let back = written_back log ws same in
          elim (layered_or_not placed []) [
            | inl in_layers ↦ inl (
              log,
              inr (record {
                placed = placed;
                short = short;
                records = sym back.1;
                legal = legal;
                in_layers = in_layers;
                text_is = joined Layered ws are
                    ∙ ap (λ (l : List ℕ). head_of Layered (length ws) ++ l) (join_written ws)
                    ∙ ap (λ (us : List Written). head_of Layered (length us) ++ flat_map layered_line us) (sym back.0);
              }),
            )
            | inr h ↦ inr (
              Unlayered (length h.front),
              (λ is. cc),
              (
                short,
                record {
                  placed = placed;
                  lines = subst (AreLogLines names i.family Layered (lines_with_ends text)) (sym back.0) are;
                  legal = subst (IsLegal i (start_of i)) (sym back.1) legal;
                  first = record {
                    front = h.front;
                    p = h.p;
                    rest = h.rest;
                    placed_are = h.are;
                    place = refl;
                    in_layers = h.in_layers;
                    unlayered = h.not;
                  };
                },
              ),
            )
          ]
