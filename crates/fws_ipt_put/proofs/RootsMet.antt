-- Rules of built-in chains decide packets of their class as the branch of the packet's entry does, and pass all others.
use Rattle.std.proofs.Common.{◌≡◌, ◌≢◌, ℕ, zero, suc, ◌+◌, ◌≤◌, Bool, true, false, cond, ◌&&◌, not, nat_eq, Some, List, [], ◌∷◌, ◌++◌, All, arith, refl, sym, ap, ◌∙◌, subst, append_assoc, eq-eqb}
use Rattle.std.proofs.lemmas.Bool.{false≢true, ne_eqb, eqb-true}
use Rattle.std.proofs.lemmas.List.Elements.{All-head, All-tail}
use Rattle.std.proofs.lemmas.Bool.Decides.{nat_tests}
use Rattle.std.proofs.lemmas.List.Sums.{sum_by-cons}
use Rattle.std.specs.List.{count_by}
use Rattle.std.specs.Option.{option_map_or}
use Rattle.fws_iv.specs.Ivs.{has}
use Rattle.fws_net.specs.Conditions.{holds, lit_holds}
use Rattle.fws_net.specs.declared.packet.Packet.{Packet}
use Rattle.fws_net.specs.declared.site.Site.{Site}
use Rattle.fws_ipt.specs.declared.config.IptGo.{IptGo}
use Rattle.fws_ipt.specs.declared.config.IptGo.TheVariants as acts
use Rattle.fws_ipt.specs.declared.config.IptRule.{IptRule}
use Rattle.fws_ipt.specs.declared.hook.Hook.{Hook}
use Rattle.fws_ipt.specs.declared.passage.ChainEnd.{ChainEnd}
use Rattle.fws_ipt.specs.declared.passage.Passage.{Passage}
use Rattle.fws_ipt.specs.Walk.{act, rules_walk, view_at}
use Rattle.fws_ipt_put_chains.specs.declared.verdict.Branch.{Branch}
use Rattle.fws_ipt_put.specs.Roots.{of_entry, go_at, is_same_go, class_rule, entry_rule, own_rules, entry_rules, arriving_rules, sending_rules}

-- acts that are the same are equal
pub same_go : (a b : IptGo) → is_same_go a b ≡ true → b ≡ a
same_go acts.Accept acts.Accept h = refl
same_go acts.Drop acts.Drop h = refl
same_go (acts.Goto c) (acts.Goto d) h = ap acts.Goto (sym (eqb-true c d h))
same_go _ _ h = absurd (false≢true h)

-- the first branch that has an entry is one of the branches, and has it
pub record IsBranchAt (P : Branch → Type 0) (branches : List Branch) (e : ℕ) : Type 0 where
  pub branch : Branch
  pub has_entry : has branch.entries e ≡ true
  pub first : go_at branches e ≡ branch.go
  pub such : P branch

by_first : (P : Branch → Type 0) (b : Branch) (bs : List Branch) (e : ℕ) → All P (b ∷ bs) → count_by (λ (x : Branch). has x.entries e) (b ∷ bs) ≢ 0
    → (count_by (λ (x : Branch). has x.entries e) bs ≢ 0 → IsBranchAt P bs e) → (here : Bool) → has b.entries e ≡ here → IsBranchAt P (b ∷ bs) e
by_first P b bs e all some later true is = record {
  branch = b;
  has_entry = is;
  first = ap (λ c. cond c b.go (go_at bs e)) is;
  such = All-head P b bs all;
}
by_first P b bs e all some later false is =
    let rest = later (λ none. some (sum_by-cons (λ (x : Branch). cond (has x.entries e) 1 0) b bs ∙ ap (λ c. (cond c 1 0) + count_by (λ (x : Branch). has x.entries e) bs) is ∙ ap (λ n. 0 + n) none)) in
    record {
      branch = rest.branch;
      has_entry = rest.has_entry;
      first = ap (λ c. cond c b.go (go_at bs e)) is ∙ rest.first;
      such = rest.such;
    }

pub branch_at : (P : Branch → Type 0) (branches : List Branch) (e : ℕ) → All P branches → count_by (λ (b : Branch). has b.entries e) branches ≢ 0 → IsBranchAt P branches e
branch_at P [] e all some = absurd (some refl)
branch_at P (b ∷ bs) e all some = by_first P b bs e all some (branch_at P bs e (All-tail P b bs all)) (has b.entries e) refl

module _ (enter : ℕ → Passage → ChainEnd) (site : Site) (p : Packet) (is_est : Bool) (hook : Hook) (m : Passage) where
  abbrev pub runs : List IptRule → ChainEnd
  runs rules = rules_walk enter site p is_est hook rules m

  abbrev pub fits : IptRule → Bool
  fits r = holds r.cond (view_at site is_est hook m)

  -- the act leads to this end, whatever rules follow
  abbrev pub Decides : ChainEnd → IptGo → Type 0
  Decides end go = (next : Passage → ChainEnd) → act enter next site p hook go m ≡ end

  pub met : (r : IptRule) (rs : List IptRule) → fits r ≡ true → runs (r ∷ rs) ≡ act enter (rules_walk enter site p is_est hook rs) site p hook r.go m
  met r rs h = ap (λ b. cond b (act enter (rules_walk enter site p is_est hook rs) site p hook r.go m) (runs rs)) h

  pub passed : (r : IptRule) (rs : List IptRule) → fits r ≡ false → runs (r ∷ rs) ≡ runs rs
  passed r rs h = ap (λ b. cond b (act enter (rules_walk enter site p is_est hook rs) site p hook r.go m) (runs rs)) h

  -- a rule that may be left out
  own_passed : (left_out : Bool) (r : IptRule) (rest : List IptRule) → fits r ≡ false → runs (cond left_out [] (r ∷ []) ++ rest) ≡ runs rest
  own_passed true r rest h = refl
  own_passed false r rest h = passed r rest h

  own_met : (end : ChainEnd) (left_out : Bool) (r : IptRule) (rest : List IptRule) → fits r ≡ true → Decides end r.go → (left_out ≡ true → runs rest ≡ end)
      → runs (cond left_out [] (r ∷ []) ++ rest) ≡ end
  own_met end true r rest h here later = later refl
  own_met end false r rest h here later = met r rest h ∙ here _

  module _ (est : Bool) (branches : List Branch) (usual : IptGo) where
    abbrev own : ℕ → IptRule
    own e = entry_rule est e (go_at branches e)

    abbrev is_usual : ℕ → Bool
    is_usual e = is_same_go (go_at branches e) usual

    -- none of the rules for entries holds
    entries_passed : (n : ℕ) (rest : List IptRule) → ((e : ℕ) → e ≤ n → fits (own e) ≡ false) → runs (entry_rules est branches usual n ++ rest) ≡ runs rest
    entries_passed zero rest none = refl
    entries_passed (suc n) rest none =
        let here = own_rules est branches usual (suc n) in
        ap runs (append_assoc (entry_rules est branches usual n) here rest)
        ∙ entries_passed n (here ++ rest) (λ e le. none e (omega arith))
        ∙ own_passed (is_usual (suc n)) (own (suc n)) rest (none (suc n) (omega arith))

    -- the one of an entry does
    abbrev Later : ChainEnd → ℕ → List IptRule → Type 0
    Later end e rest = is_usual e ≡ true → runs rest ≡ end

    by_last : (end : ChainEnd) (e : ℕ) → ((x : ℕ) → x ≢ e → fits (own x) ≡ false) → fits (own e) ≡ true → Decides end (go_at branches e)
        → (n : ℕ) (rest : List IptRule) → e ≤ suc n → Later end e rest
        → ((more : List IptRule) → e ≤ n → Later end e more → runs (entry_rules est branches usual n ++ more) ≡ end)
        → (is : Bool) → nat_eq e (suc n) ≡ is → runs (entry_rules est branches usual (suc n) ++ rest) ≡ end
    by_last end e others here decides n rest high later before true is =
        let same : e ≡ suc n = eqb-true e (suc n) is in
        let last = own_rules est branches usual (suc n) in
        ap runs (append_assoc (entry_rules est branches usual n) last rest)
        ∙ entries_passed n (last ++ rest) (λ x le. others x (omega (arith, same, le)))
        ∙ own_met end (is_usual (suc n)) (own (suc n)) rest (subst (λ x. fits (own x) ≡ true) same here)
        (subst (λ x. Decides end (go_at branches x)) same decides) (subst (λ x. Later end x rest) same later)
    by_last end e others here decides n rest high later before false is =
        let other : suc n ≢ e = λ same. false≢true (sym is ∙ eq-eqb e (suc n) (sym same)) in
        let less : e ≤ n = omega (arith, high, other) in
        let last = own_rules est branches usual (suc n) in
        ap runs (append_assoc (entry_rules est branches usual n) last rest)
        ∙ before (last ++ rest) less
        (λ usually. own_passed (is_usual (suc n)) (own (suc n)) rest (others (suc n) other) ∙ later usually)

    entries_met : (end : ChainEnd) (e : ℕ) → 1 ≤ e → ((x : ℕ) → x ≢ e → fits (own x) ≡ false) → fits (own e) ≡ true → Decides end (go_at branches e)
        → (n : ℕ) (rest : List IptRule) → e ≤ n → Later end e rest → runs (entry_rules est branches usual n ++ rest) ≡ end
    entries_met end e low others here decides zero rest high later = absurd (omega (arith, low, high))
    entries_met end e low others here decides (suc n) rest high later =
        by_last end e others here decides n rest high later (λ more le next. entries_met end e low others here decides n more le next) (nat_eq e (suc n)) refl

-- whether the literal of a class holds
class_same : (is_est est : Bool) → is_est ≡ est → cond (not est) (not is_est) is_est ≡ true
class_same true true h = refl
class_same true false h = absurd (false≢true (sym h))
class_same false true h = absurd (false≢true h)
class_same false false h = refl

class_other : (is_est est : Bool) → is_est ≡ not est → cond (not est) (not is_est) is_est ≡ false
class_other true true h = absurd (false≢true (sym h))
class_other true false h = refl
class_other false true h = refl
class_other false false h = absurd (false≢true h)

-- of the entries just one is a member of a set of one
one_has : (e x : ℕ) → nat_eq e x ≡ false → has (record { lo = e; hi = e } ∷ []) x ≡ false
one_has e x h = grind (arith, nat_tests)

one_has_it : (e : ℕ) → has (record { lo = e; hi = e } ∷ []) e ≡ true
one_has_it e = grind (arith, nat_tests)

module _ (enter : ℕ → Passage → ChainEnd) (site : Site) (p : Packet) (is_est : Bool) (hook : Hook) (m : Passage) (est : Bool) (branches : List Branch) where
  -- rules for the other class are passed
  fits_not : is_est ≡ not est → (go : IptGo) → fits enter site p is_est hook m (class_rule est go) ≡ false
  fits_not other go = ap (λ b. b && true) (class_other is_est est other)

  entry_fits_not : is_est ≡ not est → (e : ℕ) (go : IptGo) → fits enter site p is_est hook m (entry_rule est e go) ≡ false
  entry_fits_not other e go =
      ap (λ b. b && (lit_holds (view_at site is_est hook m) (of_entry e) && true)) (class_other is_est est other)

  pub arriving_passed : is_est ≡ not est → (usual n : ℕ) (rest : List IptRule)
      → runs enter site p is_est hook m (arriving_rules est branches usual n ++ rest) ≡ runs enter site p is_est hook m rest
  arriving_passed other usual n rest =
      let go = go_at branches usual in
      ap (runs enter site p is_est hook m) (append_assoc (entry_rules est branches go n) (class_rule est go ∷ []) rest)
      ∙ entries_passed enter site p is_est hook m est branches go n (class_rule est go ∷ rest) (λ e le. entry_fits_not other e (go_at branches e))
      ∙ passed enter site p is_est hook m (class_rule est go) rest (fits_not other go)

  pub sending_passed : is_est ≡ not est → (rest : List IptRule)
      → runs enter site p is_est hook m (sending_rules est branches ++ rest) ≡ runs enter site p is_est hook m rest
  sending_passed other rest = passed enter site p is_est hook m (class_rule est (go_at branches 0)) rest (fits_not other (go_at branches 0))

  -- rules for the packet's class decide
  class_fits : is_est ≡ est → (go : IptGo) → fits enter site p is_est hook m (class_rule est go) ≡ true
  class_fits same go = ap (λ b. b && true) (class_same is_est est same)

  entry_shown : (e x : ℕ) → is_est ≡ est → (view_at site is_est hook m).recv ≡ Some e → (go : IptGo)
      → fits enter site p is_est hook m (entry_rule est x go) ≡ (has (record { lo = x; hi = x } ∷ []) e && true)
  entry_shown e x same shown go =
      ap (λ b. b && (lit_holds (view_at site is_est hook m) (of_entry x) && true)) (class_same is_est est same)
      ∙ ap (λ o. option_map_or (has (record { lo = x; hi = x } ∷ [])) o false && true) shown

  pub arriving_met : is_est ≡ est → (e : ℕ) → (view_at site is_est hook m).recv ≡ Some e → (usual n : ℕ) → 1 ≤ e → e ≤ n
      → (end : ChainEnd) → Decides enter site p is_est hook m end (go_at branches e)
      → (rest : List IptRule) → runs enter site p is_est hook m (arriving_rules est branches usual n ++ rest) ≡ end
  arriving_met same e shown usual n low high end decides rest =
      let go = go_at branches usual in
      ap (runs enter site p is_est hook m) (append_assoc (entry_rules est branches go n) (class_rule est go ∷ []) rest)
      ∙ entries_met enter site p is_est hook m est branches go end e low
      (λ x other. entry_shown e x same shown (go_at branches x) ∙ ap (λ b. b && true) (one_has x e (ne_eqb x e other)))
      (entry_shown e e same shown (go_at branches e) ∙ ap (λ b. b && true) (one_has_it e))
      decides n (class_rule est go ∷ rest) high
      (λ usually. met enter site p is_est hook m (class_rule est go) rest (class_fits same go)
      ∙ subst (Decides enter site p is_est hook m end) (sym (same_go (go_at branches e) go usually)) decides _)

  pub sending_met : is_est ≡ est → (end : ChainEnd) → Decides enter site p is_est hook m end (go_at branches 0)
      → (rest : List IptRule) → runs enter site p is_est hook m (sending_rules est branches ++ rest) ≡ end
  sending_met same end decides rest =
      met enter site p is_est hook m (class_rule est (go_at branches 0)) rest (class_fits same (go_at branches 0)) ∙ decides _
