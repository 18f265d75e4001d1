use Rattle.std.proofs.Common.{◌≡◌, ◌+◌, ◌++◌, ◌∷◌, [], ℕ, List, Ok, map, string_bytes, sym, ap, subst, ◌∙◌}
use Rattle.std.specs.List.{slice_range}
use Rattle.joined_words.proofs.FoundWords.{IsFront, front_none, front_more, front_ended}
use Rattle.joined_words.proofs.NoWords.{bad_word, no_end}
use Rattle.joined_words.proofs.words.words_of.Goals as goal
use Rattle.joined_words.proofs.words.words_of.Goals.{then-bytes-at-eq0+in_ok-push_word+else-not-branch, else-bytes-at-eq0}

pub loop-at-init : goal.loop-at-init
loop-at-init c =
    subst (λ ws. IsFront c.args.bytes.now (map string_bytes ws) 0 0) (sym c.new-words.ensures.items)
    (front_none c.args.bytes.now)

-- a byte 0 ends the word, and any other goes on with it
pub loop-at-preserved : goal.loop-at-preserved
loop-at-preserved c =
    let bytes = c.args.bytes.now in
    let at = c.loop-at.at in
    let before : List (List ℕ) = map string_bytes c.loop-at.words.items in
    elim c.if-bytes-at-eq0.branch [
      | then-bytes-at-eq0+in_ok-push_word+else-not-branch w ↦
          let more : map string_bytes w.push_word.new.words.items ≡ before ++ slice_range bytes c.loop-at.start at ∷ [] =
          w.in_ok-push_word.ensures.pushed (ap Ok w.if-not-branch.false) in
          let words : map string_bytes c.if-bytes-at-eq0.words.items ≡ before ++ slice_range bytes c.loop-at.start at ∷ [] =
          ap (λ v. map string_bytes v.items) w.words-is ∙ more in
          subst (λ ws. IsFront bytes ws c.if-bytes-at-eq0.start (at + 1)) (sym words)
          (subst (λ n. IsFront bytes (before ++ slice_range bytes c.loop-at.start at ∷ []) n (at + 1)) (sym w.start-is)
          (front_ended bytes before c.loop-at.start at c.loop-at.invariant c.loop-at-test.true w.if-bytes-at-eq0.true))
      | else-bytes-at-eq0 w ↦
          subst (λ v. IsFront bytes (map string_bytes v.items) c.if-bytes-at-eq0.start (at + 1)) (sym w.words-is)
          (subst (λ n. IsFront bytes before n (at + 1)) (sym w.start-is)
          (front_more bytes before c.loop-at.start at c.loop-at.invariant w.if-bytes-at-eq0.false))
    ]

-- the word that begins at the start isn't UTF-8
pub returns-then-not-branch : goal.returns-then-not-branch
returns-then-not-branch c =
    bad_word c.args.bytes.now (map string_bytes c.loop-at.words.items) c.loop-at.start c.loop-at.at
    c.loop-at.invariant c.loop-at-test.true c.if-bytes-at-eq0.true
    (c.in_ok-push_word.ensures.bad (ap Ok c.if-not-branch.true))

-- bytes are left, and none of them is 0
pub returns-then-start-bytes : goal.returns-then-start-bytes
returns-then-start-bytes c =
    no_end c.args.bytes.now (map string_bytes c.loop-at.words.items) c.loop-at.start c.loop-at.at
    c.loop-at.invariant c.if-start-bytes.true c.loop-at-test.false
