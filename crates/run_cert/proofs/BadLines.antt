-- The first invalid line of bytes. If they begin with the first lines of a head, and no head continues with the next
-- line there, it is this line.
use Rattle.std.proofs.Common.{◌≡◌, ℕ, suc, ◌+◌, ◌<◌, ◌^◌, Bool, List, [], ◌∷◌, ◌++◌, length, take, Contains, refl, sym, ap, subst, ◌∙◌, arith, append_assoc, add-one}
use Rattle.std.specs.List.{concat}
use Rattle.std.proofs.Math.Seq.{take-append_seam, take-append-add}
use Rattle.std.proofs.lemmas.List.{append-nil, length-append}
use Rattle.std.proofs.lemmas.List.Folds.{concat-append}
use Rattle.pop_model.specs.Languages.{Begins, IsFirstBad}
use Rattle.pop_log.specs.TextLines.{lines_with_ends}
use Rattle.pop_log.proofs.JoinedLines.{LinesOf, first_is}
use Rattle.pop_stacks.specs.declared.stack_spec.StackSpec.{StackSpec}
use Rattle.pop_stacks.specs.declared.stack_spec.StackSpec.TheVariants.{Given}
use Rattle.pop_words.specs.declared.command.Command.{Command}
use Rattle.pop_words.specs.declared.command.Command.TheVariants.{Formula}
use Rattle.pop_words.specs.Options.{paused}
use Rattle.run_cert.specs.Heads.{Head, has_root, command_line, stacks_line, height_lines, root_lines, input_line, head_lines, MayBeStacks, MayBeHeight, MayBeRoot, MayBeSize, IsHead}
use Rattle.run_cert.specs.HeadLines.{BeginsNone, IsRead, IsStart}
use Rattle.run_cert.specs.Certificates.{IsCertOf, height_said, root_said}
use Rattle.run_cert.specs.Refusals.{HaveHead, IsCutShort}
use Rattle.run_cert.proofs.HeadLinesLemmas.{height_may, root_may}
use Rattle.run_cert.proofs.HeadWords.{front_first}
use Rattle.run_cert.proofs.OneText.{cert_made, head_made, behind_start, height_same, root_same}

-- where the first line says nothing, the bytes begin with no line of the kind
pub no_line : {X : Type 0} (May : X → Type 0) (spell : X → List ℕ) (bytes l rest : List ℕ) → LinesOf bytes l rest
    → ((x : X) → May x → l ≡ spell x → ⊥) → BeginsNone May (λ x. spell x ∷ []) bytes
no_line May spell bytes l rest cut none =
    record { first = l; rest = rest; cut = cut; none = λ x more others may same. none x may (cc) }

-- where lines begin a head, and the next one, if there is one, is l, which no head has there
bad_at : (ls ts : List (List ℕ)) (l : List ℕ) → ((m : List ℕ) (ms : List (List ℕ)) → ts ≡ m ∷ ms → m ≡ l)
    → Begins HaveHead ls → ((ms : List (List ℕ)) → HaveHead (ls ++ l ∷ ms) → ⊥)
    → IsFirstBad HaveHead (ls ++ ts) (suc (length ls))
bad_at ls [] l next begins none = record {
  outside = λ (g, is, ms, same). none [] (
    g,
    is,
    ms ++ l ∷ [],
    ap (λ k. k ++ l ∷ []) (sym (append-nil ls) ∙ same) ∙ append_assoc (head_lines g) ms (l ∷ []),
  );
  place = (
    length ls,
    refl,
    omega (arith, length-append ls []),
    subst (Begins HaveHead) (sym (take-append_seam ls [])) begins,
  );
  bad = λ within. absurd (omega (arith, within, length-append ls []));
}
bad_at ls (t ∷ ts) l next begins none =
    let one : take (suc (length ls)) (ls ++ t ∷ ts) ≡ ls ++ l ∷ [] =
    ap (λ n. take n (ls ++ t ∷ ts)) (sym (add-one (length ls))) ∙ take-append-add ls (t ∷ ts) 1
    ∙ ap (λ m. ls ++ m ∷ []) (next t ts refl) in
    record {
      outside = λ have. none ts (subst (λ m. HaveHead (ls ++ m ∷ ts)) (next t ts refl) have);
      place = (
        length ls,
        refl,
        omega (arith, length-append ls (t ∷ ts)),
        subst (Begins HaveHead) (sym (take-append_seam ls (t ∷ ts))) begins,
      );
      bad = λ within (more, have).
          none more (subst HaveHead (ap (λ m. m ++ more) one ∙ append_assoc ls (l ∷ []) more) have);
    }

-- so it is with bytes that begin with the first lines of a head
bad_behind : (bytes text l rest : List ℕ) (h : Head) (ls more : List (List ℕ)) → IsHead h → head_lines h ≡ ls ++ more
    → bytes ≡ concat ls ++ text → LinesOf text l rest
    → ((g : Head) (ms ns : List (List ℕ)) → IsHead g → ls ++ l ∷ ms ≡ head_lines g ++ ns → ⊥)
    → IsFirstBad HaveHead (lines_with_ends bytes) (suc (length ls))
bad_behind bytes text l rest h ls more is lines bytes_are cut none =
    subst (λ ts. IsFirstBad HaveHead ts (suc (length ls)))
    (sym (ap lines_with_ends bytes_are ∙ front_first h ls more text is lines))
    (bad_at ls (lines_with_ends text) l (first_is text l rest cut)
    (more, (h, is, [], sym lines ∙ sym (append-nil (head_lines h))))
    (λ ms (g, is', ns, same). none g ms ns is' same))

-- ---- heads that say what was read, and some of the rest

-- some height may be said of stacks
some_height : (s : StackSpec) → MayBeHeight s (height_said s 1)
some_height s = height_may s 1 (omega arith, omega arith)

-- and some root of a command
some_root : (rooted : Bool) → MayBeRoot rooted (root_said rooted 1)
some_root rooted = root_may rooted 1 (omega arith, omega arith)

-- a head may say these
made_is : (c : Command) (s : StackSpec) (h r : ℕ) → Contains paused c → MayBeStacks s → MayBeHeight s h
    → MayBeRoot (has_root c) r → IsHead (head_made c s h r 0)
made_is c s h r may may' high root =
    record { command = may; stacks = may'; height = high; root = root; size = omega arith }

-- no row may be said
no_rows : MayBeStacks (Given [])
no_rows = ((λ none. cc), refl, tt)

-- ---- the line that is bad

-- that of the command
pub command_bad : (bytes l rest : List ℕ) → LinesOf bytes l rest
    → ((c : Command) → Contains paused c → l ≡ command_line c → ⊥) → IsFirstBad HaveHead (lines_with_ends bytes) 1
command_bad bytes l rest cut none =
    bad_behind bytes bytes l rest _ [] _ (made_is Formula (Given []) (2 ^ 20) 1 (0, omega arith, refl) no_rows refl refl)
    refl refl cut (λ g ms ns is same. none g.command is.command (cc))

-- that of the stacks
pub stacks_bad : (bytes front text l rest : List ℕ) (c : Command) → bytes ≡ front ++ text → Contains paused c
    → front ≡ command_line c → LinesOf text l rest → ((s : StackSpec) → MayBeStacks s → l ≡ stacks_line s → ⊥)
    → IsFirstBad HaveHead (lines_with_ends bytes) 2
stacks_bad bytes front text l rest c parts may said cut none =
    bad_behind bytes text l rest _ (command_line c ∷ []) _
    (made_is c (Given []) (2 ^ 20) _ may no_rows refl (some_root (has_root c))) refl
    (parts ∙ ap (λ f. f ++ text) (said ∙ sym (append-nil (command_line c)))) cut
    (λ g ms ns is same. none g.stacks is.stacks (cc))

-- one behind these
later_bad : (bytes start text l rest : List ℕ) (c : Command) (s : StackSpec) (h r : ℕ) (fs more : List (List ℕ))
    → IsStart bytes c s start → MayBeHeight s h → MayBeRoot (has_root c) r
    → height_lines s h ++ (root_lines (has_root c) r ++ input_line 0 ∷ []) ≡ fs ++ more → start ≡ concat fs ++ text
    → LinesOf text l rest
    → ((k q n : ℕ) (ms ns : List (List ℕ)) → MayBeHeight s k → MayBeRoot (has_root c) q → MayBeSize n
    → fs ++ l ∷ ms ≡ height_lines s k ++ (root_lines (has_root c) q ++ input_line n ∷ ns) → ⊥)
    → IsFirstBad HaveHead (lines_with_ends bytes) (3 + length fs)
later_bad bytes start text l rest c s h r fs more has high root lines start_is cut none =
    let place : suc (length (command_line c ∷ stacks_line s ∷ fs)) ≡ 3 + length fs = omega arith in
    subst (IsFirstBad HaveHead (lines_with_ends bytes)) place
    (bad_behind bytes text l rest _ (command_line c ∷ stacks_line s ∷ fs) more
    (made_is c s h r has.may_command has.may_stacks high root)
    (ap (λ (ms : List (List ℕ)). command_line c ∷ stacks_line s ∷ ms) lines)
    (has.bytes_are ∙ ap (λ t. command_line c ++ (stacks_line s ++ t)) start_is
    ∙ ap (λ t. command_line c ++ t) (sym (append_assoc (stacks_line s) (concat fs) text))
    ∙ sym (append_assoc (command_line c) (stacks_line s ++ concat fs) text)) cut
    (λ g ms ns is same.
    let behind = behind_start c s g (fs ++ l ∷ ms) ns has.may_command has.may_stacks is same in
    none g.height g.root g.size ms ns behind.height behind.root is.size behind.are))

-- that of the height
pub height_bad : {bytes text : List ℕ} {c : Command} {s : StackSpec} → IsStart bytes c s text
    → BeginsNone (MayBeHeight s) (height_lines s) text → IsFirstBad HaveHead (lines_with_ends bytes) 3
height_bad {bytes} {text} {c} {s} has bad =
    later_bad bytes text text bad.first bad.rest c s _ _ [] _ has (some_height s) (some_root (has_root c)) refl refl bad.cut
    (λ k q n ms ns may root size same. bad.none k ms _ may same)

-- that of the root
pub root_bad : {bytes start text : List ℕ} {c : Command} {s : StackSpec} {h n : ℕ} {rooted : Bool} (p : ℕ)
    → IsStart bytes c s start → IsRead (MayBeHeight s) (height_lines s) start h n text → rooted ≡ has_root c
    → BeginsNone (MayBeRoot rooted) (root_lines rooted) text → p ≡ 3 + n
    → IsFirstBad HaveHead (lines_with_ends bytes) p
root_bad {bytes} {start} {text} {c} {s} {h} p has height same bad' place =
    let bad = subst (λ b. BeginsNone (MayBeRoot b) (root_lines b) text) same bad' in
    subst (IsFirstBad HaveHead (lines_with_ends bytes)) (sym (place ∙ ap (λ k. 3 + k) height.count_is))
    (later_bad bytes start text bad.first bad.rest c s h _ (height_lines s h) _ has height.may (some_root (has_root c))
    refl height.bytes_are bad.cut
    (λ k q n ms ns may root size same. bad.none q ms _ root (height_same s h k _ _ height.may may same).1))

-- that of the size
pub size_bad : {bytes start behind text : List ℕ} {c : Command} {s : StackSpec} {h n r m : ℕ} {rooted : Bool}
    (l rest : List ℕ) (p : ℕ) → IsStart bytes c s start → IsRead (MayBeHeight s) (height_lines s) start h n behind
    → rooted ≡ has_root c → IsRead (MayBeRoot rooted) (root_lines rooted) behind r m text → LinesOf text l rest
    → ((k : ℕ) → MayBeSize k → l ≡ input_line k → ⊥) → p ≡ 3 + n + m
    → IsFirstBad HaveHead (lines_with_ends bytes) p
size_bad {bytes} {start} {behind} {text} {c} {s} {h} {n} {r} {m} l rest p has height same root' cut none place =
    let root = subst (λ b. IsRead (MayBeRoot b) (root_lines b) behind r m text) same root' in
    let hs = height_lines s h in
    let rs = root_lines (has_root c) r in
    let count : 3 + length (hs ++ rs) ≡ p = omega (arith, length-append hs rs, height.count_is, root.count_is, place) in
    subst (IsFirstBad HaveHead (lines_with_ends bytes)) count
    (later_bad bytes start text l rest c s h r (hs ++ rs) (input_line 0 ∷ []) has height.may root.may
    (sym (append_assoc hs rs (input_line 0 ∷ [])))
    (height.bytes_are ∙ ap (λ t. concat hs ++ t) root.bytes_are ∙ sym (append_assoc (concat hs) (concat rs) text)
    ∙ ap (λ t. t ++ text) (sym (concat-append hs rs))) cut
    (λ k q n ms ns may root' size same.
    let heights = height_same s h k _ _ height.may may (sym (append_assoc hs rs (l ∷ ms)) ∙ same) in
    let roots = root_same (has_root c) r q _ _ root.may root' heights.1 in
    none n size (let rest' = roots.1 in cc)))

-- ---- a whole head

-- bytes begin with a head of so many lines
pub record HasHead (bytes : List ℕ) (h : Head) (count : ℕ) (rest : List ℕ) : Type 0 where
  pub is : IsHead h
  pub bytes_are : bytes ≡ concat (head_lines h) ++ rest
  pub count_is : count ≡ length (head_lines h)

-- what was read, part by part, is such a head
pub head_has : {bytes start behind text : List ℕ} {c : Command} {s : StackSpec} {h n r m : ℕ} {rooted : Bool}
    (l rest : List ℕ) (size p : ℕ) → IsStart bytes c s start
    → IsRead (MayBeHeight s) (height_lines s) start h n behind → rooted ≡ has_root c
    → IsRead (MayBeRoot rooted) (root_lines rooted) behind r m text → text ≡ l ++ rest
    → MayBeSize size × (l ≡ input_line size) → p ≡ 3 + n + m → HasHead bytes (head_made c s h r size) p rest
head_has {bytes} {start} {behind} {text} {c} {s} {h} {n} {r} {m} l rest size p has height same root' parts input place =
    let root = subst (λ b. IsRead (MayBeRoot b) (root_lines b) behind r m text) same root' in
    let hs = height_lines s h in
    let rs = root_lines (has_root c) r in
    let last = input_line size ∷ [] in
    let tail : start ≡ concat (hs ++ (rs ++ last)) ++ rest =
    height.bytes_are ∙ ap (λ t. concat hs ++ t) (root.bytes_are ∙ ap (λ t. concat rs ++ t) (parts
    ∙ ap (λ k. k ++ rest) (input.1 ∙ sym (append-nil (input_line size))))
    ∙ sym (append_assoc (concat rs) (concat last) rest) ∙ ap (λ t. t ++ rest) (sym (concat-append rs last)))
    ∙ sym (append_assoc (concat hs) (concat (rs ++ last)) rest)
    ∙ ap (λ t. t ++ rest) (sym (concat-append hs (rs ++ last))) in
    record {
      is = record {
        command = has.may_command;
        stacks = has.may_stacks;
        height = height.may;
        root = root.may;
        size = input.0;
      };
      bytes_are = has.bytes_are ∙ ap (λ t. command_line c ++ (stacks_line s ++ t)) tail
          ∙ ap (λ t. command_line c ++ t) (sym (append_assoc (stacks_line s) (concat (hs ++ (rs ++ last))) rest))
          ∙ sym (append_assoc (command_line c) (stacks_line s ++ concat (hs ++ (rs ++ last))) rest);
      count_is = omega (arith, length-append hs (rs ++ last), length-append rs last, height.count_is, root.count_is, place);
    }

-- with fewer bytes behind it than it says, it is cut short
pub cut_short : {bytes rest : List ℕ} {h : Head} {count : ℕ} → HasHead bytes h count rest → length rest < h.size
    → IsCutShort bytes count
cut_short {bytes} {rest} {h} has few = record {
  h = h;
  is = has.is;
  rest = rest;
  bytes_are = has.bytes_are;
  few = few;
  line_is = has.count_is;
}

-- with the input behind it, it is a certificate
pub cert_has : {bytes rest : List ℕ} {c : Command} {s : StackSpec} {h r size p : ℕ} (input log_text : List ℕ)
    → HasHead bytes (head_made c s h r size) p rest → (rest ≡ input ++ log_text) × (length input ≡ size)
    → IsCertOf bytes (cert_made (head_made c s h r (length input)) input log_text)
cert_has {bytes} {rest} {c} {s} {h} {r} {size} {p} input log_text has' cut =
    let has = subst (λ n. HasHead bytes (head_made c s h r n) p rest) (sym cut.1) has' in
    record {
      is = record { head = has.is; size = refl };
      text_is = has.bytes_are ∙ ap (λ t. concat (head_lines (head_made c s h r (length input))) ++ t) cut.0;
    }
