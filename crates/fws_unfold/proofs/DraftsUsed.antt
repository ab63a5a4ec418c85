-- What drafts use, rule by rule.
use Rattle.std.proofs.Common.{◌≡◌, ℕ, suc, ◌≤◌, Bool, true, false, cond, List, [], ◌∷◌, ◌++◌, length, length-append, append_assoc, append-nil, arith, refl, sym, ap, ◌∙◌, Some, None, nat_lt}
use Rattle.std.specs.Prelude.{nat_le}
use Rattle.std.proofs.lemmas.Bool.{le-leb, lt-leb, le-ltb}
use Rattle.fws_net.specs.declared.transit.Transit.{Transit}
use Rattle.fws_net.specs.Conditions.{holds}
use Rattle.fws_ifcl.specs.declared.diagram.Act.{Act}
use Rattle.fws_ifcl.specs.declared.diagram.Act.TheVariants as acts
use Rattle.fws_ifcl.specs.declared.diagram.Chain.{Chain}
use Rattle.fws_ifcl.specs.declared.diagram.Rule.{Rule}
use Rattle.fws_ifcl.specs.declared.diagram.Place.{Place}
use Rattle.fws_ifcl.specs.declared.step.ChainEnd.{ChainEnd}
use Rattle.fws_ifcl.specs.declared.step.ChainEnd.TheVariants.{Accepted, Dropped, Through}
use Rattle.fws_ifcl.specs.Walk.{sees, step_of, stepped, back, rules_walk}
use Rattle.fws_ifcl.specs.Uses.{used_back, used_behind, rules_used}
use Rattle.fws_unfold.specs.declared.draft.Draft.{Draft}
use Rattle.fws_unfold.specs.declared.draft.DraftAct.TheVariants.{Go}
use Rattle.fws_unfold.specs.Drafts.{Scene, walk_of, walk_from, IsBehind, call_of, plain_act}
use Rattle.fws_unfold.specs.Used.{stands_for, used_acted_by, drafted_used, used_of, used_from, Uses}
use Rattle.fws_unfold.proofs.Drafts.{behind_same, behind_more}

kept_used_front : (front old : List Draft) (s : Scene) (n : ℕ) (t : Transit) → n ≤ length old → drafted_used s (front ++ old) n t ≡ drafted_used s old n t
kept_used_front [] old s n t le = refl
kept_used_front (i ∷ front) old s n t le =
    let far : n ≤ length (front ++ old) = let e = length-append front old in omega arith in
    let passed : nat_le n (length (front ++ old)) ≡ true = le-leb n (length (front ++ old)) far in
    rw passed (kept_used_front front old s n t le)

pub kept_used : (old new : List Draft) → IsBehind old new → (s : Scene) (n : ℕ) (t : Transit) → n ≤ length old → drafted_used s new n t ≡ drafted_used s old n t
kept_used old new b s n t le = ap (λ code. drafted_used s code n t) b.is ∙ kept_used_front b.front old s n t le

first_uses : (s : Scene) (i : Draft) (is : List Draft) (t : Transit)
    → drafted_used s (i ∷ is) (length (i ∷ is)) t
    ≡ cond (holds i.cond (sees s.site s.kind s.stage t)) (stands_for i.rule ++ used_acted_by (drafted_used s is) (length is) s.packet s.kind i.act t) (drafted_used s is (length is) t)
first_uses s i is t =
    let at : nat_le (suc (length is)) (length is) ≡ false = lt-leb (suc (length is)) (length is) (omega arith) in
    rw at refl

first_rule : (chains : List Chain) (s : Scene) (at : ℕ) (rule : Rule) (rs : List Rule) (t : Transit)
    → walk_from chains s at (rule ∷ rs) t
    ≡ cond (holds rule.cond (sees s.site s.kind s.stage t))
    (stepped (walk_of chains s) (rules_walk (walk_of chains s) s.site s.packet s.kind s.stage (suc at) rs) (step_of s.packet s.kind rule.act t))
    (rules_walk (walk_of chains s) s.site s.packet s.kind s.stage (suc at) rs 0 t)
first_rule chains s at rule rs t =
    let zeroth : nat_lt at 0 ≡ false = le-ltb at 0 (omega arith) in
    rw zeroth refl

abbrev rule_used : List Chain → ℕ → Scene → ℕ → Rule → List Rule → Transit → List Place
rule_used chains c s at rule rs t =
    cond (holds rule.cond (sees s.site s.kind s.stage t))
    (record { chain = c; rule = at } ∷ used_behind (used_of chains s) (walk_of chains s) (rules_used (used_of chains s) (walk_of chains s) c s.site s.packet s.kind s.stage (suc at) rs) (step_of s.packet s.kind rule.act t))
    (rules_used (used_of chains s) (walk_of chains s) c s.site s.packet s.kind s.stage (suc at) rs 0 t)

first_used : (chains : List Chain) (c : ℕ) (s : Scene) (at : ℕ) (rule : Rule) (rs : List Rule) (t : Transit)
    → used_from chains c s at (rule ∷ rs) t
    ≡ cond (holds rule.cond (sees s.site s.kind s.stage t))
    (record { chain = c; rule = at } ∷ used_behind (used_of chains s) (walk_of chains s) (rules_used (used_of chains s) (walk_of chains s) c s.site s.packet s.kind s.stage (suc at) rs) (step_of s.packet s.kind rule.act t))
    (rules_used (used_of chains s) (walk_of chains s) c s.site s.packet s.kind s.stage (suc at) rs 0 t)
first_used chains c s at rule rs t =
    let zeroth : nat_lt at 0 ≡ false = le-ltb at 0 (omega arith) in
    rw zeroth refl

both_used : (b : Bool) (place : Place) (x y a u : List Place) (f : Transit → List Place) (v w : ChainEnd) → x ≡ a ++ used_back f v → y ≡ u ++ used_back f w
    → cond b (place ∷ x) y ≡ cond b (place ∷ a) u ++ used_back f (cond b v w)
both_used true place x y a u f v w p q = ap (λ xs. place ∷ xs) p
both_used false place x y a u f v w p q = q

module _ (chains : List Chain) (c : ℕ) (back_to : ℕ) (old : List Draft) where
  abbrev pub UsesFrom : ℕ → List Rule → List Draft → Type 0
  UsesFrom at rules code = Uses (λ s. used_from chains c s at rules) (λ s. walk_from chains s at rules) back_to old code

  plain_used : (s : Scene) (act : Act) (rest : List Draft) (skip : ℕ) (at : ℕ) (rs : List Rule) (t : Transit)
      → ((a b : ℕ) → call_of act a b ≡ None) → back_to ≤ length old → IsBehind old rest
      → UsesFrom (suc at) rs rest
      → ((to : ℕ) (u : Transit) → act ≡ acts.Skip to → drafted_used s rest skip u
      ≡ rules_used (used_of chains s) (walk_of chains s) c s.site s.packet s.kind s.stage (suc at) rs to u
      ++ used_back (drafted_used s old back_to) (rules_walk (walk_of chains s) s.site s.packet s.kind s.stage (suc at) rs to u))
      → used_acted_by (drafted_used s rest) (length rest) s.packet s.kind (plain_act act back_to skip) t
      ≡ used_behind (used_of chains s) (walk_of chains s) (rules_used (used_of chains s) (walk_of chains s) c s.site s.packet s.kind s.stage (suc at) rs) (step_of s.packet s.kind act t)
      ++ used_back (drafted_used s old back_to) (stepped (walk_of chains s) (rules_walk (walk_of chains s) s.site s.packet s.kind s.stage (suc at) rs) (step_of s.packet s.kind act t))
  plain_used s acts.Accept rest skip at rs t plain low b f skips = refl
  plain_used s acts.Drop rest skip at rs t plain low b f skips = refl
  plain_used s (acts.Hold h) rest skip at rs t plain low b f skips = f.uses s _
  plain_used s (acts.Call d) rest skip at rs t plain low b f skips = absurd (let e = plain 0 0 in cc)
  plain_used s (acts.Goto d) rest skip at rs t plain low b f skips = absurd (let e = plain 0 0 in cc)
  plain_used s acts.Return rest skip at rs t plain low b f skips = kept_used old rest b s back_to t low
  plain_used s (acts.Skip to) rest skip at rs t plain low b f skips = skips to t refl
  plain_used s (acts.Src e) rest skip at rs t plain low b f skips = f.uses s _
  plain_used s (acts.Dst e) rest skip at rs t plain low b f skips = f.uses s _
  plain_used s acts.RecSrc rest skip at rs t plain low b f skips = f.uses s _
  plain_used s acts.RecDst rest skip at rs t plain low b f skips = f.uses s _
  plain_used s (acts.AddTag n) rest skip at rs t plain low b f skips = f.uses s _
  plain_used s (acts.OnlyTag n) rest skip at rs t plain low b f skips = f.uses s _
  plain_used s (acts.DelTag n) rest skip at rs t plain low b f skips = f.uses s _

  pub plain_uses_more : (rule : Rule) (rest : List Draft) (skip at : ℕ) (rs : List Rule)
      → ((a b : ℕ) → call_of rule.act a b ≡ None) → back_to ≤ length old → IsBehind old rest → UsesFrom (suc at) rs rest
      → ((s : Scene) (to : ℕ) (u : Transit) → rule.act ≡ acts.Skip to → drafted_used s rest skip u
      ≡ rules_used (used_of chains s) (walk_of chains s) c s.site s.packet s.kind s.stage (suc at) rs to u
      ++ used_back (drafted_used s old back_to) (rules_walk (walk_of chains s) s.site s.packet s.kind s.stage (suc at) rs to u))
      → UsesFrom at (rule ∷ rs) (record { cond = rule.cond; act = plain_act rule.act back_to skip; rule = Some (record { chain = c; rule = at }) } ∷ rest)
  plain_uses_more rule rest skip at rs plain low b f skips = record {
    uses = λ s t.
        first_uses s (record { cond = rule.cond; act = plain_act rule.act back_to skip; rule = Some (record { chain = c; rule = at }) }) rest t
        ∙ both_used (holds rule.cond (sees s.site s.kind s.stage t)) (record { chain = c; rule = at }) _ _ _ _ (drafted_used s old back_to) _ _
        (plain_used s rule.act rest skip at rs t plain low b f (skips s)) (f.uses s t)
        ∙ sym (ap (λ xs. xs ++ used_back (drafted_used s old back_to) (walk_from chains s at (rule ∷ rs) t)) (first_used chains c s at rule rs t)
        ∙ ap (λ end. rule_used chains c s at rule rs t ++ used_back (drafted_used s old back_to) end) (first_rule chains s at rule rs t));
  }

  call_back : (f g : Transit → List Place) (h : Transit → List Place) (w : Transit → ChainEnd) (xs : List Place) (end : ChainEnd) → ((u : Transit) → f u ≡ h u ++ used_back g (w u))
      → xs ++ used_back f end ≡ (xs ++ used_back h end) ++ used_back g (back w end)
  call_back f g h w xs (Accepted t) e = sym (append-nil (xs ++ []))
  call_back f g h w xs Dropped e = sym (append-nil (xs ++ []))
  call_back f g h w xs (Through t) e = ap (λ ys. xs ++ ys) (e t) ∙ sym (append_assoc xs (h t) (used_back g (w t)))

  goto_back : (f g : Transit → List Place) (xs : List Place) (end : ChainEnd) → ((u : Transit) → f u ≡ g u) → xs ++ used_back f end ≡ xs ++ used_back g end
  goto_back f g xs (Accepted t) e = refl
  goto_back f g xs Dropped e = refl
  goto_back f g xs (Through t) e = ap (λ ys. xs ++ ys) (e t)

  call_used : (s : Scene) (act : Act) (rest body : List Draft) (d far at : ℕ) (rs : List Rule) (t : Transit)
      → back_to ≤ length old → Some (d, far) ≡ call_of act (length rest) back_to → IsBehind old rest → UsesFrom (suc at) rs rest
      → Uses (λ s. used_of chains s d) (λ s. walk_of chains s d) far rest body
      → drafted_used s body (length body) t
      ≡ used_behind (used_of chains s) (walk_of chains s) (rules_used (used_of chains s) (walk_of chains s) c s.site s.packet s.kind s.stage (suc at) rs) (step_of s.packet s.kind act t)
      ++ used_back (drafted_used s old back_to) (stepped (walk_of chains s) (rules_walk (walk_of chains s) s.site s.packet s.kind s.stage (suc at) rs) (step_of s.packet s.kind act t))
  call_used s (acts.Call e) rest body d far at rs t low is b f inner =
      let pair : ◌≡◌ {A = ℕ × ℕ} (d, far) (e, length rest) = cc in
      let there : d ≡ e = ap (λ (x : ℕ × ℕ). x.0) pair in
      let behind : far ≡ length rest = ap (λ (x : ℕ × ℕ). x.1) pair in
      inner.uses s t
      ∙ ap (λ k. used_of chains s d t ++ used_back (drafted_used s rest k) (walk_of chains s d t)) behind
      ∙ ap (λ e. used_of chains s e t ++ used_back (drafted_used s rest (length rest)) (walk_of chains s e t)) there
      ∙ call_back (drafted_used s rest (length rest)) (drafted_used s old back_to) (rules_used (used_of chains s) (walk_of chains s) c s.site s.packet s.kind s.stage (suc at) rs 0)
      (rules_walk (walk_of chains s) s.site s.packet s.kind s.stage (suc at) rs 0) (used_of chains s e t) (walk_of chains s e t) (f.uses s)
  call_used s (acts.Goto e) rest body d far at rs t low is b f inner =
      let pair : ◌≡◌ {A = ℕ × ℕ} (d, far) (e, back_to) = cc in
      let there : d ≡ e = ap (λ (x : ℕ × ℕ). x.0) pair in
      let behind : far ≡ back_to = ap (λ (x : ℕ × ℕ). x.1) pair in
      inner.uses s t
      ∙ ap (λ k. used_of chains s d t ++ used_back (drafted_used s rest k) (walk_of chains s d t)) behind
      ∙ ap (λ e. used_of chains s e t ++ used_back (drafted_used s rest back_to) (walk_of chains s e t)) there
      ∙ goto_back (drafted_used s rest back_to) (drafted_used s old back_to) (used_of chains s e t) (walk_of chains s e t) (λ u. kept_used old rest b s back_to u low)
  call_used s acts.Accept rest body d far at rs t low is b f inner = absurd (cc)
  call_used s acts.Drop rest body d far at rs t low is b f inner = absurd (cc)
  call_used s (acts.Hold h) rest body d far at rs t low is b f inner = absurd (cc)
  call_used s acts.Return rest body d far at rs t low is b f inner = absurd (cc)
  call_used s (acts.Skip to) rest body d far at rs t low is b f inner = absurd (cc)
  call_used s (acts.Src e) rest body d far at rs t low is b f inner = absurd (cc)
  call_used s (acts.Dst e) rest body d far at rs t low is b f inner = absurd (cc)
  call_used s acts.RecSrc rest body d far at rs t low is b f inner = absurd (cc)
  call_used s acts.RecDst rest body d far at rs t low is b f inner = absurd (cc)
  call_used s (acts.AddTag n) rest body d far at rs t low is b f inner = absurd (cc)
  call_used s (acts.OnlyTag n) rest body d far at rs t low is b f inner = absurd (cc)
  call_used s (acts.DelTag n) rest body d far at rs t low is b f inner = absurd (cc)

  pub call_uses_more : (rule : Rule) (rest body : List Draft) (d far at : ℕ) (rs : List Rule)
      → back_to ≤ length old → Some (d, far) ≡ call_of rule.act (length rest) back_to → IsBehind old rest → IsBehind rest body → UsesFrom (suc at) rs rest
      → Uses (λ s. used_of chains s d) (λ s. walk_of chains s d) far rest body
      → UsesFrom at (rule ∷ rs) (record { cond = rule.cond; act = Go (length body); rule = Some (record { chain = c; rule = at }) } ∷ record { cond = []; act = Go (length rest); rule = None } ∷ body)
  call_uses_more rule rest body d far at rs low is b grown f inner =
      let over : Draft = record { cond = []; act = Go (length rest); rule = None } in
      let guard : Draft = record { cond = rule.cond; act = Go (length body); rule = Some (record { chain = c; rule = at }) } in
      record {
        uses = λ s t.
            let one : length body ≤ length body = omega arith in
            let all : length rest ≤ length rest = omega arith in
            let into : drafted_used s (over ∷ body) (length body) t ≡ drafted_used s body (length body) t =
            kept_used body (over ∷ body) (behind_more body body over (behind_same body)) s (length body) t one in
            let past : drafted_used s (over ∷ body) (length (over ∷ body)) t ≡ drafted_used s rest (length rest) t =
            first_uses s over body t ∙ kept_used rest body grown s (length rest) t all in
            first_uses s guard (over ∷ body) t
            ∙ both_used (holds rule.cond (sees s.site s.kind s.stage t)) (record { chain = c; rule = at }) _ _ _ _ (drafted_used s old back_to) _ _
            (into ∙ call_used s rule.act rest body d far at rs t low is b f inner) (past ∙ f.uses s t)
            ∙ sym (ap (λ xs. xs ++ used_back (drafted_used s old back_to) (walk_from chains s at (rule ∷ rs) t)) (first_used chains c s at rule rs t)
            ∙ ap (λ end. rule_used chains c s at rule rs t ++ used_back (drafted_used s old back_to) end) (first_rule chains s at rule rs t));
      }

  pub ends_plain_used : (at : ℕ) → back_to ≡ length old → UsesFrom at [] old
  ends_plain_used at is = record { uses = λ s t. ap (λ n. drafted_used s old n t) (sym is) }

  pub ends_jump_used : (at : ℕ) → UsesFrom at [] (record { cond = []; act = Go back_to; rule = None } ∷ old)
  ends_jump_used at = record { uses = λ s t. first_uses s (record { cond = []; act = Go back_to; rule = None }) old t }
