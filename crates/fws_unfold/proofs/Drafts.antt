-- What drafts do, rule by rule.
use Rattle.std.proofs.Common.{◌≡◌, ℕ, suc, ◌≤◌, Bool, true, false, cond, List, [], ◌∷◌, ◌++◌, length, length-append, append_assoc, arith, refl, sym, ap, ◌∙◌, Option, Some, None, nat_lt}
use Rattle.std.specs.Prelude.{nat_le}
use Rattle.std.proofs.lemmas.Bool.{le-leb, lt-leb, and_from, le-ltb}
use Rattle.fws_net.specs.declared.transit.Transit.{Transit}
use Rattle.fws_net.specs.Conditions.{holds}
use Rattle.fws_ifcl.specs.declared.diagram.Act.{Act}
use Rattle.fws_ifcl.specs.declared.diagram.Act.TheVariants as acts
use Rattle.fws_ifcl.specs.declared.diagram.Chain.{Chain}
use Rattle.fws_ifcl.specs.declared.diagram.Rule.{Rule}
use Rattle.fws_ifcl.specs.declared.diagram.Place.{Place}
use Rattle.fws_ifcl.specs.declared.step.ChainEnd.{ChainEnd}
use Rattle.fws_ifcl.specs.declared.step.ChainEnd.TheVariants.{Accepted, Dropped, Through}
use Rattle.fws_ifcl.specs.Walk.{sees, step_of, stepped, back, rules_walk}
use Rattle.fws_unfold.specs.declared.draft.Draft.{Draft}
use Rattle.fws_unfold.specs.declared.draft.DraftAct.TheVariants.{Go}
use Rattle.fws_unfold.specs.Drafts.{Scene, acted_by, drafted, act_fits, all_fit, left_by, walk_of, walk_from, IsBehind, Does, call_of, plain_act}

-- Code that is put before other code

-- what is put before changes nothing behind
kept_front : (front old : List Draft) (s : Scene) (n : ℕ) (t : Transit) → n ≤ length old → drafted s (front ++ old) n t ≡ drafted s old n t
kept_front [] old s n t le = refl
kept_front (i ∷ front) old s n t le =
    let far : n ≤ length (front ++ old) = let e = length-append front old in omega arith in
    let passed : nat_le n (length (front ++ old)) ≡ true = le-leb n (length (front ++ old)) far in
    rw passed (kept_front front old s n t le)

pub kept : (old new : List Draft) → IsBehind old new → (s : Scene) (n : ℕ) (t : Transit) → n ≤ length old → drafted s new n t ≡ drafted s old n t
kept old new b s n t le = ap (λ code. drafted s code n t) b.is ∙ kept_front b.front old s n t le

pub longer : (old new : List Draft) → IsBehind old new → length old ≤ length new
longer old new b = let e = ap length b.is ∙ length-append b.front old in omega arith

pub behind_same : (code : List Draft) → IsBehind code code
behind_same code = record { front = []; is = refl }

pub behind_more : (old new : List Draft) (i : Draft) → IsBehind old new → IsBehind old (i ∷ new)
behind_more old new i b = record { front = i ∷ b.front; is = ap (λ code. i ∷ code) b.is }

pub behind_on : (a b c : List Draft) → IsBehind a b → IsBehind b c → IsBehind a c
behind_on a b c g h = record { front = h.front ++ g.front; is = h.is ∙ ap (λ code. h.front ++ code) g.is ∙ sym (append_assoc h.front g.front a) }

-- the first instruction acts
pub first_acts : (s : Scene) (i : Draft) (is : List Draft) (t : Transit)
    → drafted s (i ∷ is) (length (i ∷ is)) t
    ≡ cond (holds i.cond (sees s.site s.kind s.stage t)) (acted_by (drafted s is) (length is) s.packet s.kind i.act t) (drafted s is (length is) t)
first_acts s i is t =
    let at : nat_le (suc (length is)) (length is) ≡ false = lt-leb (suc (length is)) (length is) (omega arith) in
    rw at refl

cond_both : (f : ChainEnd → Option Transit) (b : Bool) (x y : Option Transit) (x' y' : ChainEnd) → x ≡ f x' → y ≡ f y' → cond b x y ≡ f (cond b x' y')
cond_both f true x y x' y' p q = p
cond_both f false x y x' y' p q = q

-- A rule before the rules behind it

first_rule : (chains : List Chain) (s : Scene) (at : ℕ) (rule : Rule) (rs : List Rule) (t : Transit)
    → walk_from chains s at (rule ∷ rs) t
    ≡ cond (holds rule.cond (sees s.site s.kind s.stage t))
    (stepped (walk_of chains s) (rules_walk (walk_of chains s) s.site s.packet s.kind s.stage (suc at) rs) (step_of s.packet s.kind rule.act t))
    (rules_walk (walk_of chains s) s.site s.packet s.kind s.stage (suc at) rs 0 t)
first_rule chains s at rule rs t =
    let zeroth : nat_lt at 0 ≡ false = le-ltb at 0 (omega arith) in
    rw zeroth refl

module _ (chains : List Chain) (back_to : ℕ) (old : List Draft) where
  -- the code does what the rules from a place on do
  abbrev pub Follows : ℕ → List Rule → List Draft → Type 0
  Follows at rules code = Does (λ s. walk_from chains s at rules) back_to old code

  plain_acts : (s : Scene) (act : Act) (rest : List Draft) (skip : ℕ) (at : ℕ) (rs : List Rule) (t : Transit)
      → ((a b : ℕ) → call_of act a b ≡ None) → back_to ≤ length old
      → Follows (suc at) rs rest
      → ((to : ℕ) (u : Transit) → act ≡ acts.Skip to → drafted s rest skip u ≡ left_by (drafted s old back_to) (rules_walk (walk_of chains s) s.site s.packet s.kind s.stage (suc at) rs to u))
      → acted_by (drafted s rest) (length rest) s.packet s.kind (plain_act act back_to skip) t
      ≡ left_by (drafted s old back_to) (stepped (walk_of chains s) (rules_walk (walk_of chains s) s.site s.packet s.kind s.stage (suc at) rs) (step_of s.packet s.kind act t))
  plain_acts s acts.Accept rest skip at rs t plain low f skips = refl
  plain_acts s acts.Drop rest skip at rs t plain low f skips = refl
  plain_acts s (acts.Hold b) rest skip at rs t plain low f skips = f.walks s _
  plain_acts s (acts.Call c) rest skip at rs t plain low f skips = absurd (let e = plain 0 0 in cc)
  plain_acts s (acts.Goto c) rest skip at rs t plain low f skips = absurd (let e = plain 0 0 in cc)
  plain_acts s acts.Return rest skip at rs t plain low f skips = kept old rest f.behind s back_to t low
  plain_acts s (acts.Skip to) rest skip at rs t plain low f skips = skips to t refl
  plain_acts s (acts.Src e) rest skip at rs t plain low f skips = f.walks s _
  plain_acts s (acts.Dst e) rest skip at rs t plain low f skips = f.walks s _
  plain_acts s acts.RecSrc rest skip at rs t plain low f skips = f.walks s _
  plain_acts s acts.RecDst rest skip at rs t plain low f skips = f.walks s _
  plain_acts s (acts.AddTag n) rest skip at rs t plain low f skips = f.walks s _
  plain_acts s (acts.OnlyTag n) rest skip at rs t plain low f skips = f.walks s _
  plain_acts s (acts.DelTag n) rest skip at rs t plain low f skips = f.walks s _

  plain_fits : (act : Act) (behind skip : ℕ) → back_to ≤ behind → skip ≤ behind → act_fits behind (plain_act act back_to skip) ≡ true
  plain_fits acts.Accept behind skip low high = refl
  plain_fits acts.Drop behind skip low high = refl
  plain_fits (acts.Hold b) behind skip low high = refl
  plain_fits (acts.Call c) behind skip low high = le-leb back_to behind low
  plain_fits (acts.Goto c) behind skip low high = le-leb back_to behind low
  plain_fits acts.Return behind skip low high = le-leb back_to behind low
  plain_fits (acts.Skip to) behind skip low high = le-leb skip behind high
  plain_fits (acts.Src e) behind skip low high = refl
  plain_fits (acts.Dst e) behind skip low high = refl
  plain_fits acts.RecSrc behind skip low high = refl
  plain_fits acts.RecDst behind skip low high = refl
  plain_fits (acts.AddTag n) behind skip low high = refl
  plain_fits (acts.OnlyTag n) behind skip low high = refl
  plain_fits (acts.DelTag n) behind skip low high = refl

  -- a rule that enters no chain
  pub plain_more : (rule : Rule) (from : Option Place) (rest : List Draft) (skip at : ℕ) (rs : List Rule)
      → ((a b : ℕ) → call_of rule.act a b ≡ None) → back_to ≤ length old → skip ≤ length rest → Follows (suc at) rs rest
      → ((s : Scene) (to : ℕ) (u : Transit) → rule.act ≡ acts.Skip to → drafted s rest skip u ≡ left_by (drafted s old back_to) (rules_walk (walk_of chains s) s.site s.packet s.kind s.stage (suc at) rs to u))
      → Follows at (rule ∷ rs) (record { cond = rule.cond; act = plain_act rule.act back_to skip; rule = from } ∷ rest)
  plain_more rule from rest skip at rs plain low high f skips = record {
    behind = behind_more old rest _ f.behind;
    fits = λ ok. and_from (act_fits (length rest) (plain_act rule.act back_to skip)) (all_fit rest)
        (plain_fits rule.act (length rest) skip (let e = longer old rest f.behind in omega arith) high) (f.fits ok);
    walks = λ s t.
        first_acts s (record { cond = rule.cond; act = plain_act rule.act back_to skip; rule = from }) rest t
        ∙ cond_both (left_by (drafted s old back_to)) (holds rule.cond (sees s.site s.kind s.stage t)) _ _ _ _
        (plain_acts s rule.act rest skip at rs t plain low f (skips s)) (f.walks s t)
        ∙ sym (ap (left_by (drafted s old back_to)) (first_rule chains s at rule rs t));
  }

  left_twice : (s : Scene) (mid : Transit → Option Transit) (go : Transit → ChainEnd) (end : ChainEnd) → ((u : Transit) → mid u ≡ left_by (drafted s old back_to) (go u))
      → left_by mid end ≡ left_by (drafted s old back_to) (back go end)
  left_twice s mid go (Accepted t) e = refl
  left_twice s mid go Dropped e = refl
  left_twice s mid go (Through t) e = e t

  left_same : (f g : Transit → Option Transit) (end : ChainEnd) → ((u : Transit) → f u ≡ g u) → left_by f end ≡ left_by g end
  left_same f g (Accepted t) e = refl
  left_same f g Dropped e = refl
  left_same f g (Through t) e = e t

  call_acts : (s : Scene) (act : Act) (rest body : List Draft) (d far at : ℕ) (rs : List Rule) (t : Transit)
      → back_to ≤ length old → Some (d, far) ≡ call_of act (length rest) back_to → Follows (suc at) rs rest
      → Does (λ s. walk_of chains s d) far rest body
      → drafted s body (length body) t
      ≡ left_by (drafted s old back_to) (stepped (walk_of chains s) (rules_walk (walk_of chains s) s.site s.packet s.kind s.stage (suc at) rs) (step_of s.packet s.kind act t))
  call_acts s (acts.Call c) rest body d far at rs t low is f b =
      let pair : ◌≡◌ {A = ℕ × ℕ} (d, far) (c, length rest) = cc in
      let there : d ≡ c = ap (λ (x : ℕ × ℕ). x.0) pair in
      let behind : far ≡ length rest = ap (λ (x : ℕ × ℕ). x.1) pair in
      b.walks s t
      ∙ ap (λ k. left_by (drafted s rest k) (walk_of chains s d t)) behind
      ∙ ap (λ e. left_by (drafted s rest (length rest)) (walk_of chains s e t)) there
      ∙ left_twice s (drafted s rest (length rest)) (rules_walk (walk_of chains s) s.site s.packet s.kind s.stage (suc at) rs 0) (walk_of chains s c t) (f.walks s)
  call_acts s (acts.Goto c) rest body d far at rs t low is f b =
      let pair : ◌≡◌ {A = ℕ × ℕ} (d, far) (c, back_to) = cc in
      let there : d ≡ c = ap (λ (x : ℕ × ℕ). x.0) pair in
      let behind : far ≡ back_to = ap (λ (x : ℕ × ℕ). x.1) pair in
      b.walks s t
      ∙ ap (λ k. left_by (drafted s rest k) (walk_of chains s d t)) behind
      ∙ ap (λ e. left_by (drafted s rest back_to) (walk_of chains s e t)) there
      ∙ left_same (drafted s rest back_to) (drafted s old back_to) (walk_of chains s c t) (λ u. kept old rest f.behind s back_to u low)
  call_acts s acts.Accept rest body d far at rs t low is f b = absurd (cc)
  call_acts s acts.Drop rest body d far at rs t low is f b = absurd (cc)
  call_acts s (acts.Hold h) rest body d far at rs t low is f b = absurd (cc)
  call_acts s acts.Return rest body d far at rs t low is f b = absurd (cc)
  call_acts s (acts.Skip to) rest body d far at rs t low is f b = absurd (cc)
  call_acts s (acts.Src e) rest body d far at rs t low is f b = absurd (cc)
  call_acts s (acts.Dst e) rest body d far at rs t low is f b = absurd (cc)
  call_acts s acts.RecSrc rest body d far at rs t low is f b = absurd (cc)
  call_acts s acts.RecDst rest body d far at rs t low is f b = absurd (cc)
  call_acts s (acts.AddTag n) rest body d far at rs t low is f b = absurd (cc)
  call_acts s (acts.OnlyTag n) rest body d far at rs t low is f b = absurd (cc)
  call_acts s (acts.DelTag n) rest body d far at rs t low is f b = absurd (cc)

  -- a rule that enters a chain
  pub call_more : (rule : Rule) (from : Option Place) (rest body : List Draft) (d far at : ℕ) (rs : List Rule)
      → back_to ≤ length old → Some (d, far) ≡ call_of rule.act (length rest) back_to → Follows (suc at) rs rest → Does (λ s. walk_of chains s d) far rest body
      → Follows at (rule ∷ rs) (record { cond = rule.cond; act = Go (length body); rule = from } ∷ record { cond = []; act = Go (length rest); rule = None } ∷ body)
  call_more rule from rest body d far at rs low is f b =
      let over : Draft = record { cond = []; act = Go (length rest); rule = None } in
      let guard : Draft = record { cond = rule.cond; act = Go (length body); rule = from } in
      let long = longer rest body b.behind in
      record {
        behind = behind_more old (over ∷ body) guard (behind_more old body over (behind_on old rest body f.behind b.behind));
        fits = λ ok. and_from (act_fits (length (over ∷ body)) guard.act) (all_fit (over ∷ body))
            (le-leb (length body) (length (over ∷ body)) (omega arith))
            (and_from (act_fits (length body) over.act) (all_fit body) (le-leb (length rest) (length body) long) (b.fits (f.fits ok)));
        walks = λ s t.
            let one : length body ≤ length body = omega arith in
            let into : drafted s (over ∷ body) (length body) t ≡ drafted s body (length body) t =
            kept body (over ∷ body) (behind_more body body over (behind_same body)) s (length body) t one in
            let past : drafted s (over ∷ body) (length (over ∷ body)) t ≡ drafted s rest (length rest) t =
            let all : length rest ≤ length rest = omega arith in
            first_acts s over body t ∙ kept rest body b.behind s (length rest) t all in
            first_acts s guard (over ∷ body) t
            ∙ cond_both (left_by (drafted s old back_to)) (holds rule.cond (sees s.site s.kind s.stage t)) _ _ _ _
            (into ∙ call_acts s rule.act rest body d far at rs t low is f b) (past ∙ f.walks s t)
            ∙ sym (ap (left_by (drafted s old back_to)) (first_rule chains s at rule rs t));
      }

  -- the end of a chain
  pub ends_plain : (at : ℕ) → back_to ≡ length old → Follows at [] old
  ends_plain at is = record { behind = behind_same old; fits = λ ok. ok; walks = λ s t. ap (λ n. drafted s old n t) (sym is) }

  pub ends_jump : (at : ℕ) → back_to ≤ length old → Follows at [] (record { cond = []; act = Go back_to; rule = None } ∷ old)
  ends_jump at low = record {
    behind = behind_more old old _ (behind_same old);
    fits = λ ok. and_from (act_fits (length old) (Go back_to)) (all_fit old) (le-leb back_to (length old) low) ok;
    walks = λ s t. first_acts s (record { cond = []; act = Go back_to; rule = None }) old t;
  }
