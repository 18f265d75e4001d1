-- A text is that of at most one certificate. Its lines begin with those of the head, and each of these has one
-- meaning. The head has the number of bytes of the input, and the rest is the log text.
use Rattle.std.proofs.Common.{◌≡◌, ℕ, Bool, true, false, List, ◌∷◌, ◌++◌, length, drop, take, Contains, refl, sym, ap, ap₂, subst, ◌∙◌, arith, append_assoc, codes}
use Rattle.std.specs.List.{concat}
use Rattle.std.proofs.Math.Seq.{take-append_seam}
use Rattle.std.proofs.lemmas.List.{append_cancel_left}
use Rattle.pop_log.specs.TextLines.{lines_with_ends}
use Rattle.pop_log.proofs.DecimalsLemmas.{wide}
use Rattle.pop_stacks.specs.declared.stack_spec.StackSpec.{StackSpec}
use Rattle.pop_stacks.specs.declared.stack_spec.StackSpec.TheVariants.{Key, Given}
use Rattle.pop_words.specs.declared.command.Command.{Command}
use Rattle.pop_words.specs.Options.{paused}
use Rattle.run_cert.specs.Heads.{Head, has_root, command_line, stacks_line, height_line, root_line, input_line, height_lines, root_lines, head_lines, MayBeStacks, MayBeHeight, MayBeRoot, IsHead}
use Rattle.run_cert.specs.Certificates.{Certificate, IsCertOf}
use Rattle.run_cert.proofs.HeadWords.{head_first}
use Rattle.run_cert.proofs.HeadLinesLemmas.{command_same, labeled_same, stacks_same}

-- the head that says this
abbrev pub head_made : Command → StackSpec → ℕ → ℕ → ℕ → Head
head_made c s h r n = record { command = c; stacks = s; height = h; root = r; size = n }

-- the certificate that holds this
abbrev pub cert_made : Head → List ℕ → List ℕ → Certificate
cert_made h input log_text = record { head = h; input = input; log_text = log_text }

-- the lines behind the first of some stacks are those of one height
pub height_same : (s : StackSpec) (h k : ℕ) (ls ms : List (List ℕ)) → MayBeHeight s h → MayBeHeight s k
    → height_lines s h ++ ls ≡ height_lines s k ++ ms → (h ≡ k) × (ls ≡ ms)
height_same (Key key) h k ls ms may may' same =
    let line : height_line h ≡ height_line k = cc in
    let rest : ls ≡ ms = cc in
    let high = may.1 in
    let high' = may'.1 in
    (labeled_same (codes "height ") h k (omega (arith, high)) (omega (arith, high')) line, rest)
height_same (Given rows) h k ls ms may may' same = (may ∙ sym may', same)

-- those of a root are of one
pub root_same : (rooted : Bool) (r q : ℕ) (ls ms : List (List ℕ)) → MayBeRoot rooted r → MayBeRoot rooted q
    → root_lines rooted r ++ ls ≡ root_lines rooted q ++ ms → (r ≡ q) × (ls ≡ ms)
root_same true r q ls ms may may' same =
    let line : root_line r ≡ root_line q = cc in
    let rest : ls ≡ ms = cc in
    (labeled_same (codes "root ") r q (wide r may.1) (wide q may'.1) line, rest)
root_same false r q ls ms may may' same = (may ∙ sym may', same)

-- a head whose lines begin with those of a command and of stacks says these, and what stands behind them
pub record HasBehind (c : Command) (s : StackSpec) (g : Head) (xs ms : List (List ℕ)) : Type 0 where
  pub head : head_made c s g.height g.root g.size ≡ g
  pub height : MayBeHeight s g.height
  pub root : MayBeRoot (has_root c) g.root
  pub are : xs ≡ height_lines s g.height ++ (root_lines (has_root c) g.root ++ input_line g.size ∷ ms)

pub behind_start : (c : Command) (s : StackSpec) (g : Head) (xs ms : List (List ℕ)) → Contains paused c → MayBeStacks s
    → IsHead g → command_line c ∷ stacks_line s ∷ xs ≡ head_lines g ++ ms → HasBehind c s g xs ms
behind_start c s g xs ms may may' is same =
    let first : command_line c ≡ command_line g.command = cc in
    let next : stacks_line s ≡ stacks_line g.stacks = cc in
    let head : head_made c s g.height g.root g.size ≡ g =
    ap₂ (λ d z. head_made d z g.height g.root g.size) (command_same c g.command may is.command first)
    (stacks_same s g.stacks may' is.stacks next) in
    let there = subst IsHead (sym head) is in
    let lines : command_line c ∷ stacks_line s ∷ xs ≡ head_lines (head_made c s g.height g.root g.size) ++ ms =
    same ∙ ap (λ h. head_lines h ++ ms) (sym head) in
    record {
      head = head;
      height = there.height;
      root = there.root;
      are = ap (drop 2) lines ∙ append_assoc (height_lines s g.height) _ ms
          ∙ ap (λ l. height_lines s g.height ++ l) (append_assoc (root_lines (has_root c) g.root) _ ms);
    }

-- lines begin with those of one head
heads_same : (h g : Head) (ls ms : List (List ℕ)) → IsHead h → IsHead g → head_lines h ++ ls ≡ head_lines g ++ ms
    → h ≡ g
heads_same h g ls ms is is' same =
    let own = behind_start h.command h.stacks h _ ls is.command is.stacks is refl in
    let other = behind_start h.command h.stacks g _ ms is.command is.stacks is' same in
    let heights = height_same h.stacks h.height g.height _ _ is.height other.height (sym own.are ∙ other.are) in
    let roots = root_same (has_root h.command) h.root g.root _ _ is.root other.root heights.1 in
    let line : input_line h.size ≡ input_line g.size = let rest = roots.1 in cc in
    let sizes = labeled_same (codes "input ") h.size g.size (wide h.size is.size) (wide g.size is'.size) line in
    ap (λ n. head_made h.command h.stacks n h.root h.size) heights.0
    ∙ ap₂ (head_made h.command h.stacks g.height) roots.0 sizes ∙ other.head

-- a text begins with one head
pub heads_cut : (h g : Head) (x y : List ℕ) → IsHead h → IsHead g
    → concat (head_lines h) ++ x ≡ concat (head_lines g) ++ y → (h ≡ g) × (x ≡ y)
heads_cut h g x y is is' same =
    let heads = heads_same h g (lines_with_ends x) (lines_with_ends y) is is'
    (sym (head_first h x is) ∙ ap lines_with_ends same ∙ head_first g y is') in
    (heads, append_cancel_left (concat (head_lines h)) x y (same ∙ ap (λ f. concat (head_lines f) ++ y) (sym heads)))

-- a text is that of one certificate
pub one_cert : (bytes : List ℕ) (cert other : Certificate) → IsCertOf bytes cert → IsCertOf bytes other → cert ≡ other
one_cert bytes cert other is is' =
    let heads = heads_cut cert.head other.head (cert.input ++ cert.log_text) (other.input ++ other.log_text) is.is.head
    is'.is.head (sym is.text_is ∙ is'.text_is) in
    let sizes : length cert.input ≡ length other.input =
    is.is.size ∙ ap (λ (h : Head). h.size) heads.0 ∙ sym is'.is.size in
    let inputs : cert.input ≡ other.input =
    sym (take-append_seam cert.input cert.log_text) ∙ ap₂ take sizes heads.1
    ∙ take-append_seam other.input other.log_text in
    ap (λ h. cert_made h cert.input cert.log_text) heads.0
    ∙ ap₂ (cert_made other.head) inputs
    (append_cancel_left cert.input cert.log_text other.log_text (heads.1 ∙ ap (λ i. i ++ other.log_text) (sym inputs)))
