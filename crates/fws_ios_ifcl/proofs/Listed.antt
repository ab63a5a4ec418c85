-- The rules of an access list walk as it decides.
use Rattle.std.proofs.Common.{◌≡◌, ℕ, suc, ◌+◌, ◌≤◌, Bool, true, false, cond, List, [], ◌∷◌, length, arith, refl, ◌∙◌}
use Rattle.fws_net.specs.declared.connection.Kind.{Kind}
use Rattle.fws_net.specs.declared.transit.Transit.{Transit}
use Rattle.fws_net.specs.Conditions.{holds}
use Rattle.fws_ifcl.specs.declared.diagram.Act.{Act}
use Rattle.fws_ifcl.specs.declared.diagram.Act.TheVariants.{Accept, Drop}
use Rattle.fws_ifcl.specs.declared.step.ChainEnd.{ChainEnd}
use Rattle.fws_ifcl.specs.declared.step.ChainEnd.TheVariants.{Accepted, Dropped}
use Rattle.fws_ifcl_rules.specs.Places.{IsForward, AreForward, Walk, behind_act, run, sight, Stands, walk_through}
use Rattle.fws_ios.specs.declared.config.IosEntry.{IosEntry}
use Rattle.fws_ios.specs.Walk.{permits}
use Rattle.fws_ios_ifcl.specs.Blocks.{listing}
use Rattle.fws_ios_ifcl.specs.Diagram.{stage_of}

-- a packet's course through the rules of a chain
abbrev pub Course : Kind → Bool → ℕ → Type 0
Course k outward chain = Walk k (stage_of outward chain)

-- Skips

-- one of two acts
forward_by : (b : Bool) (at : ℕ) (permitted denied : Act) → IsForward at permitted → IsForward at denied → IsForward at (cond b permitted denied)
forward_by true at permitted denied first second = first
forward_by false at permitted denied first second = second

-- where both acts go forward from each place up to the last one
pub listing_forward : (permitted denied : Act) (at last : ℕ) → ((m : ℕ) → m ≤ last → IsForward (at + m) permitted) → ((m : ℕ) → m ≤ last → IsForward (at + m) denied)
    → (n : ℕ) (entries : List IosEntry) → n + length entries ≤ last → AreForward at n (listing permitted denied entries)
listing_forward permitted denied at last first second n [] le = (second n (omega (arith, le)), tt)
listing_forward permitted denied at last first second n (entry ∷ entries) le = (
  forward_by entry.permit (at + n) permitted denied (first n (omega (arith, le))) (second n (omega (arith, le))),
  listing_forward permitted denied at last first second (suc n) entries (omega (arith, le)),
)

module _ (k : Kind) (outward : Bool) (chain : ℕ) (w : Course k outward chain) where
  -- an act behind which none of the rules of its list is met
  abbrev Leaves : Act → (Transit → ChainEnd) → Type 0
  Leaves act end = (next : Transit → ChainEnd) (t : Transit) → behind_act w.enter w.site w.p k (stage_of outward chain) w.full next act t ≡ end t

  -- an entry, or what is behind it
  entry_decides : (permitted denied : Act) (taken left : Transit → ChainEnd) → Leaves permitted taken → Leaves denied left
      → (matches permit later : Bool) (next : Transit → ChainEnd) (t : Transit) (rest : ChainEnd) → rest ≡ cond later (taken t) (left t)
      → cond matches (behind_act w.enter w.site w.p k (stage_of outward chain) w.full next (cond permit permitted denied) t) rest
      ≡ cond (cond matches permit later) (taken t) (left t)
  entry_decides permitted denied taken left first second true true later next t rest is = first next t
  entry_decides permitted denied taken left first second true false later next t rest is = second next t
  entry_decides permitted denied taken left first second false permit later next t rest is = is

  -- all entries
  entries_walk : (permitted denied : Act) (taken left : Transit → ChainEnd) → Leaves permitted taken → Leaves denied left → (at n : ℕ) (entries : List IosEntry) (t : Transit)
      → walk_through w.enter w.site w.p k (stage_of outward chain) w.full at n (listing permitted denied entries) t ≡ cond (permits w.site k outward entries t) (taken t) (left t)
  entries_walk permitted denied taken left first second at n [] t = second (walk_through w.enter w.site w.p k (stage_of outward chain) w.full at (suc n) []) t
  entries_walk permitted denied taken left first second at n (entry ∷ entries) t =
      let next = walk_through w.enter w.site w.p k (stage_of outward chain) w.full at (suc n) (listing permitted denied entries) in
      entry_decides permitted denied taken left first second (holds entry.cond (sight w t)) entry.permit (permits w.site k outward entries t) next t (next t)
      (entries_walk permitted denied taken left first second at (suc n) entries t)

  -- a list
  pub listing_walk : (permitted denied : Act) (taken left : Transit → ChainEnd) → Leaves permitted taken → Leaves denied left → (at : ℕ) (entries : List IosEntry)
      → ((m : ℕ) → m ≤ length entries → IsForward (at + m) permitted) → ((m : ℕ) → m ≤ length entries → IsForward (at + m) denied)
      → Stands w at (listing permitted denied entries) → (t : Transit) → run w at t ≡ cond (permits w.site k outward entries t) (taken t) (left t)
  listing_walk permitted denied taken left first second at entries ahead behind s t =
      w.law.walked s (listing_forward permitted denied at (length entries) ahead behind 0 entries (omega arith)) t
      ∙ entries_walk permitted denied taken left first second at 0 entries t

  -- a list that accepts packets and drops them
  pub filtering_walk : (at : ℕ) (entries : List IosEntry) → Stands w at (listing Accept Drop entries) → (t : Transit)
      → run w at t ≡ cond (permits w.site k outward entries t) (Accepted t) Dropped
  filtering_walk at entries s t =
      listing_walk Accept Drop Accepted (λ u. Dropped) (λ next u. refl) (λ next u. refl) at entries (λ m le. tt) (λ m le. tt) s t
