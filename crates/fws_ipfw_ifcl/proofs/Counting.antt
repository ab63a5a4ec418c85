-- The configuration that has rules that count: it walks as the one from which it is made, and what is told of it is what that one uses.
use Rattle.std.proofs.Common.{◌≡◌, ℕ, suc, ◌+◌, ◌<◌, Bool, true, false, cond, ◌&&◌, nat_lt, nat_le, le_refl, Option, Some, List, [], ◌∷◌, ◌++◌, length, drop, get_or, arith, refl, sym, ap, ◌∙◌, append_assoc}
use Rattle.std.proofs.lemmas.Bool.{false≢true, le-ltb, le-leb, and_parts, and_from}
use Rattle.std.proofs.lemmas.List.{drop_more}
use Rattle.fws_net.specs.declared.connection.Kind.{Kind}
use Rattle.fws_net.specs.declared.packet.Packet.{Packet}
use Rattle.fws_net.specs.declared.site.Site.{Site}
use Rattle.fws_net.specs.declared.transit.Transit.{Transit}
use Rattle.fws_net.specs.Conditions.{holds}
use Rattle.fws_net.specs.Connections.{is_est}
use Rattle.fws_ipfw.specs.declared.config.IpfwAct.{IpfwAct}
use Rattle.fws_ipfw.specs.declared.config.IpfwAct.TheVariants as acts
use Rattle.fws_ipfw.specs.declared.config.IpfwRule.{IpfwRule}
use Rattle.fws_ipfw.specs.declared.config.IpfwConfig.{IpfwConfig}
use Rattle.fws_ipfw.specs.declared.pass.Pass.{Pass}
use Rattle.fws_ipfw.specs.declared.pass.Step.{Step}
use Rattle.fws_ipfw.specs.declared.pass.Step.TheVariants as steps
use Rattle.fws_ipfw.specs.Soundness.{is_ahead, are_ordered, is_check}
use Rattle.fws_ipfw.specs.Walk.{view_on, ended, tagged, step_of, stepped, rules_walk, pass_walk}
use Rattle.fws_ipfw_ifcl.specs.Fitting.{IsDrawable}
use Rattle.fws_ipfw_ifcl.specs.Placed.{looks_up, counting, counted, with_counts}
use Rattle.fws_ipfw_ifcl.proofs.Acting.{Suits, none_suit}
use Rattle.fws_ipfw_ifcl.proofs.Halves.{or_parts, Heard}

-- Its rules stand by their numbers

-- ahead of rules a rule has at most the number of the first
ahead_counted : (n : ℕ) (s r : IpfwRule) (rs : List IpfwRule) (b : Bool) → s.number ≡ n → is_ahead s (r ∷ rs) ≡ true
    → is_ahead s (cond b (counting r ∷ r ∷ counted rs) (r ∷ counted rs)) ≡ true
ahead_counted n s r rs true e ahead = ahead
ahead_counted n s r rs false e ahead = ahead

ahead_all : (s : IpfwRule) (rs : List IpfwRule) → is_ahead s rs ≡ true → is_ahead s (counted rs) ≡ true
ahead_all s [] ahead = refl
ahead_all s (r ∷ rs) ahead = ahead_counted s.number s r rs (looks_up r) refl ahead

counted_ordered : (rs : List IpfwRule) → are_ordered rs ≡ true → are_ordered (counted rs) ≡ true
counted_ordered [] up = refl
counted_ordered (r ∷ rs) up =
    let parts = and_parts (is_ahead r rs) (are_ordered rs) up in
    let rest : are_ordered (r ∷ counted rs) ≡ true =
    and_from (is_ahead r (counted rs)) (are_ordered (counted rs)) (ahead_all r rs parts.0) (counted_ordered rs parts.1) in
    by_look (looks_up r) rest
  where
    by_look : (b : Bool) → are_ordered (r ∷ counted rs) ≡ true → are_ordered (cond b (counting r ∷ r ∷ counted rs) (r ∷ counted rs)) ≡ true
    by_look true rest = and_from (nat_le r.number r.number) (are_ordered (r ∷ counted rs)) (le-leb r.number r.number (le_refl r.number)) rest
    by_look false rest = rest

-- so it can be drawn
pub counts_drawable : (c : IpfwConfig) → IsDrawable c → IsDrawable (with_counts c)
counts_drawable c drawable = record { ordered = counted_ordered c.rules drawable.ordered; apart = drawable.apart; fitting = drawable.fitting }

-- Its numbers

-- the numbers beside its rules, of which the first is the one counted n or stands ahead of it
abbrev pub numbers_from : ℕ → List IpfwRule → List (List ℕ)
numbers_from n [] = []
numbers_from n (r ∷ rs) = (n ∷ []) ∷ cond (looks_up r) ([] ∷ numbers_from (suc n) rs) (numbers_from (suc n) rs)

-- a rule that isn't a check-state rule
others_suit : (act : IpfwAct) (numbers : List ℕ) → is_check act ≡ false → Suits act numbers
others_suit acts.Allow numbers other = tt
others_suit acts.Deny numbers other = tt
others_suit acts.Count numbers other = tt
others_suit (acts.Skip n) numbers other = tt
others_suit acts.Check numbers other = absurd (false≢true (sym other))
others_suit (acts.Nat n) numbers other = tt

pub counted_heard : (n : ℕ) (rs : List IpfwRule) → Heard (counted rs) (numbers_from n rs)
counted_heard n [] = tt
counted_heard n (r ∷ rs) = by_look (looks_up r) refl (counted_heard (suc n) rs)
  where
    by_look : (b : Bool) → looks_up r ≡ b → Heard (counted rs) (numbers_from (suc n) rs)
        → Heard (cond b (counting r ∷ r ∷ counted rs) (r ∷ counted rs)) ((n ∷ []) ∷ cond b ([] ∷ numbers_from (suc n) rs) (numbers_from (suc n) rs))
    by_look true look rest = (((λ keeps. absurd (false≢true keeps)), tt), (((λ keeps. refl), none_suit r.act), rest))
    by_look false look rest =
        let both = or_parts r.keep (is_check r.act) look in
        (((λ keeps. absurd (false≢true (sym both.0 ∙ keeps))), others_suit r.act (n ∷ []) both.1), rest)

-- Its walks

-- a rule that counts ahead of another one with the same number
ahead_of_same : {X : Type 0} (passed est keep holding low : Bool) (rest first : X) (kept met next : X) → low ≡ false
    → cond passed (cond passed rest first)
    (cond (est && false) kept (cond holding (cond low next (cond (est && keep) kept (cond holding met next))) (cond low next (cond (est && keep) kept (cond holding met next)))))
    ≡ cond passed rest (cond (est && keep) kept (cond holding met next))
ahead_of_same true est keep holding low rest first kept met next none = refl
ahead_of_same false true keep true false rest first kept met next none = refl
ahead_of_same false true keep false false rest first kept met next none = refl
ahead_of_same false false keep true false rest first kept met next none = refl
ahead_of_same false false keep false false rest first kept met next none = refl
ahead_of_same false est keep holding true rest first kept met next none = absurd (false≢true (sym none))

-- no number lies below 0
pub none_below : (n : ℕ) → nat_lt n 0 ≡ false
none_below n = le-ltb n 0 (omega arith)

module _ (c : IpfwConfig) (site : Site) (p : Packet) (k : Kind) (outward : Bool) where
  abbrev d : IpfwConfig
  d = with_counts c

  -- instances are the same
  pub same_step : (act : IpfwAct) (m : Pass) → step_of d site p k outward act m ≡ step_of c site p k outward act m
  same_step acts.Allow m = refl
  same_step acts.Deny m = refl
  same_step acts.Count m = refl
  same_step (acts.Skip n) m = refl
  same_step acts.Check m = refl
  same_step (acts.Nat n) m = refl

  same_stepped : (f g : ℕ → Pass → Option Transit) → ((to : ℕ) (m : Pass) → f to m ≡ g to m) → (step : Step) → stepped f step ≡ stepped g step
  same_stepped f g same (steps.Accepted t) = refl
  same_stepped f g same steps.Dropped = refl
  same_stepped f g same (steps.Onwards to m) = same to m

  -- rules
  pub counted_walk : (rs : List IpfwRule) (to : ℕ) (m : Pass) → rules_walk d site p k outward (counted rs) to m ≡ rules_walk c site p k outward rs to m
  counted_walk [] to m = refl
  counted_walk (r ∷ rs) to m =
      let f = rules_walk d site p k outward (counted rs) in
      let g = rules_walk c site p k outward rs in
      let passed = nat_lt r.number to in
      let keeps = is_est k && r.keep in
      let h = holds r.cond (view_on site k outward m.transit) in
      let kept = Some (ended k outward m) in
      let after : Pass = record m { transit = tagged r.tag m.transit } in
      let met = stepped f (step_of d site p k outward r.act after) in
      let same_met : met ≡ stepped g (step_of c site p k outward r.act after) =
      ap (stepped f) (same_step r.act after) ∙ same_stepped f g (counted_walk rs) (step_of c site p k outward r.act after) in
      by_look (looks_up r)
      ∙ ap (λ o. cond passed o (cond keeps kept (cond h met (f 0 m)))) (counted_walk rs to m)
      ∙ ap (λ o. cond passed (g to m) (cond keeps kept (cond h o (f 0 m)))) same_met
      ∙ ap (λ o. cond passed (g to m) (cond keeps kept (cond h (stepped g (step_of c site p k outward r.act after)) o))) (counted_walk rs 0 m)
    where
      by_look : (b : Bool) → rules_walk d site p k outward (cond b (counting r ∷ r ∷ counted rs) (r ∷ counted rs)) to m ≡ rules_walk d site p k outward (r ∷ counted rs) to m
      by_look true =
          ahead_of_same (nat_lt r.number to) (is_est k) r.keep (holds r.cond (view_on site k outward m.transit)) (nat_lt r.number 0)
          (rules_walk d site p k outward (counted rs) to m)
          (cond (is_est k && r.keep) (Some (ended k outward m)) (cond (holds r.cond (view_on site k outward m.transit))
          (stepped (rules_walk d site p k outward (counted rs)) (step_of d site p k outward r.act (record m { transit = tagged r.tag m.transit }))) (rules_walk d site p k outward (counted rs) 0 m)))
          (Some (ended k outward m))
          (stepped (rules_walk d site p k outward (counted rs)) (step_of d site p k outward r.act (record m { transit = tagged r.tag m.transit })))
          (rules_walk d site p k outward (counted rs) 0 m)
          (none_below r.number)
      by_look false = refl

  -- a pass
  pub counted_pass : (t : Transit) → pass_walk d site p k outward t ≡ pass_walk c site p k outward t
  counted_pass t = counted_walk c.rules 0 (record { transit = t; translated = false })

-- Rules are put one behind the other

counted_first : (r : IpfwRule) (rs : List IpfwRule) → counted (r ∷ rs) ≡ counted (r ∷ []) ++ counted rs
counted_first r rs = by_look (looks_up r)
  where
    by_look : (b : Bool) → cond b (counting r ∷ r ∷ counted rs) (r ∷ counted rs) ≡ cond b (counting r ∷ r ∷ []) (r ∷ []) ++ counted rs
    by_look true = refl
    by_look false = refl

pub counted_step : (rules : List IpfwRule) (k : ℕ) (r : IpfwRule) (ahead new all : List IpfwRule) → k < length rules → r ≡ get_or rules k r
    → new ≡ ahead ++ counted (r ∷ []) → ahead ++ counted (drop k rules) ≡ all → new ++ counted (drop (k + 1) rules) ≡ all
counted_step rules k r ahead new all lt item put left =
    let rest = drop (k + 1) rules in
    ap (λ l. l ++ counted rest) put ∙ append_assoc ahead (counted (r ∷ [])) (counted rest)
    ∙ ap (λ l. ahead ++ l) (sym (counted_first r rest) ∙ ap (λ x. counted (x ∷ rest)) item ∙ ap counted (sym (drop_more rules k r lt)))
    ∙ left
