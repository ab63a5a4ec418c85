-- What is told of the rules of an access list is the entry that decides.
use Rattle.std.proofs.Common.{◌≡◌, ℕ, suc, ◌+◌, ◌≤◌, Bool, true, false, cond, List, [], ◌∷◌, ◌++◌, length, arith, refl, ap, ◌∙◌, append-nil}
use Rattle.std.proofs.Math.Seq.{drop-length}
use Rattle.fws_net.specs.declared.connection.Kind.{Kind}
use Rattle.fws_net.specs.declared.transit.Transit.{Transit}
use Rattle.fws_net.specs.Conditions.{holds}
use Rattle.fws_ifcl.specs.declared.diagram.Act.{Act}
use Rattle.fws_ifcl.specs.declared.diagram.Act.TheVariants.{Accept, Drop}
use Rattle.fws_ifcl.specs.declared.diagram.Rule.{Rule}
use Rattle.fws_ifcl.specs.Spots.{told}
use Rattle.fws_ifcl.specs.Uses.{rules_used}
use Rattle.fws_ifcl_rules.specs.Places.{IsForward, sight, Stands}
use Rattle.fws_ifcl_rules.specs.UsedPlaces.{Telling, tell, Bears, told_act, told_through}
use Rattle.fws_ios.specs.declared.config.IosEntry.{IosEntry}
use Rattle.fws_ios.specs.Uses.{entries_used}
use Rattle.fws_ios.specs.Walk.{permits}
use Rattle.fws_ios_ifcl.specs.Blocks.{listing}
use Rattle.fws_ios_ifcl.specs.Diagram.{stage_of}
use Rattle.fws_ios_ifcl.proofs.Beside.{listing_beside}
use Rattle.fws_ios_ifcl.proofs.Listed.{Course, listing_forward}

-- what is told of a course through the rules of a chain
abbrev pub Tale : {k : Kind} {outward : Bool} {chain : ℕ} → Course k outward chain → Type 0
Tale w = Telling w

module _ (k : Kind) (outward : Bool) (chain : ℕ) (w : Course k outward chain) (u : Tale w) where
  -- through rules that stand n places behind the place at
  abbrev pub through : ℕ → ℕ → List Rule → List (List ℕ) → Transit → List ℕ
  through at n rules beside t = told_through u.used w.enter u.spots u.chain w.site w.p k (stage_of outward chain) w.full at n rules beside t

  -- by an act
  abbrev pub by_act : (Transit → List ℕ) → Act → Transit → List ℕ
  by_act next act t = told_act u.used w.enter u.spots u.chain w.site w.p k (stage_of outward chain) w.full next act t

  -- behind the last rule of the chain nothing is
  pub none_told : (t : Transit) → tell u (length w.full) t ≡ []
  none_told t =
      ap (λ rules. told u.spots (rules_used u.used w.enter u.chain w.site w.p k (stage_of outward chain) (length w.full) rules 0 t)) (drop-length w.full)

  -- an act behind which none of the rules of its list is met
  abbrev Leaves : Act → (Transit → List ℕ) → Type 0
  Leaves act end = (next : Transit → List ℕ) (t : Transit) → by_act next act t ≡ end t

  -- an entry, or what is behind it
  entry_told : (permitted denied : Act) (taken left : Transit → List ℕ) → Leaves permitted taken → Leaves denied left
      → (matches permit later : Bool) (n : ℕ) (more : List ℕ) (next : Transit → List ℕ) (t : Transit) (rest : List ℕ) → rest ≡ more ++ cond later (taken t) (left t)
      → cond matches ((n ∷ []) ++ by_act next (cond permit permitted denied) t) rest
      ≡ cond matches (n ∷ []) more ++ cond (cond matches permit later) (taken t) (left t)
  entry_told permitted denied taken left first second true true later n more next t rest is = ap (λ l. n ∷ l) (first next t)
  entry_told permitted denied taken left first second true false later n more next t rest is = ap (λ l. n ∷ l) (second next t)
  entry_told permitted denied taken left first second false permit later n more next t rest is = is

  -- all entries
  entries_told : (permitted denied : Act) (taken left : Transit → List ℕ) → Leaves permitted taken → Leaves denied left → (at n m : ℕ) (entries : List IosEntry) (t : Transit)
      → through at n (listing permitted denied entries) (listing_beside m entries) t
      ≡ entries_used w.site k outward m entries t ++ cond (permits w.site k outward entries t) (taken t) (left t)
  entries_told permitted denied taken left first second at n m [] t = second (through at (suc n) [] []) t
  entries_told permitted denied taken left first second at n m (entry ∷ entries) t =
      let next = through at (suc n) (listing permitted denied entries) (listing_beside (suc m) entries) in
      entry_told permitted denied taken left first second (holds entry.cond (sight w t)) entry.permit (permits w.site k outward entries t) m
      (entries_used w.site k outward (suc m) entries t) next t (next t)
      (entries_told permitted denied taken left first second at (suc n) (suc m) entries t)

  -- a list
  pub listing_told : (permitted denied : Act) (taken left : Transit → List ℕ) → Leaves permitted taken → Leaves denied left → (at m : ℕ) (entries : List IosEntry)
      → ((n : ℕ) → n ≤ length entries → IsForward (at + n) permitted) → ((n : ℕ) → n ≤ length entries → IsForward (at + n) denied)
      → Stands w at (listing permitted denied entries) → Bears u at (listing_beside m entries) → (t : Transit)
      → tell u at t ≡ entries_used w.site k outward m entries t ++ cond (permits w.site k outward entries t) (taken t) (left t)
  listing_told permitted denied taken left first second at m entries ahead behind s b t =
      u.law.told s b (listing_forward permitted denied at (length entries) ahead behind 0 entries (omega arith)) t
      ∙ entries_told permitted denied taken left first second at 0 m entries t

  nothing_more : (numbers : List ℕ) (b : Bool) → numbers ++ cond b [] [] ≡ numbers
  nothing_more numbers true = append-nil numbers
  nothing_more numbers false = append-nil numbers

  -- a list that accepts packets and drops them
  pub filtering_told : (at m : ℕ) (entries : List IosEntry) → Stands w at (listing Accept Drop entries) → Bears u at (listing_beside m entries) → (t : Transit)
      → tell u at t ≡ entries_used w.site k outward m entries t
  filtering_told at m entries s b t =
      listing_told Accept Drop (λ v. []) (λ v. []) (λ next v. refl) (λ next v. refl) at m entries (λ n le. tt) (λ n le. tt) s b t
      ∙ nothing_more (entries_used w.site k outward m entries t) (permits w.site k outward entries t)
