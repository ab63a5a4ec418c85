-- How a walk goes through rules each of which asks for the side of routing, whatever is gathered on the way.
use Rattle.std.proofs.Common.{◌≡◌, ℕ, suc, ◌+◌, ◌<◌, ◌≤◌, Bool, true, false, cond, ◌&&◌, List, [], ◌∷◌, ◌++◌, length, map, arith, refl, ap, ◌∙◌, length-append}
use Rattle.std.proofs.lemmas.Bool.{and_parts}
use Rattle.std.proofs.lemmas.List.{length-map}
use Rattle.std.proofs.lemmas.List.Folds.{list_all-append}
use Rattle.fws_net.specs.declared.condition.Lit.{Lit}
use Rattle.fws_net.specs.declared.packet.Packet.{Packet}
use Rattle.fws_net.specs.declared.connection.Kind.{Kind}
use Rattle.fws_net.specs.declared.site.Site.{Site}
use Rattle.fws_net.specs.declared.transit.Transit.{Transit}
use Rattle.fws_net.specs.Conditions.{holds, lit_holds}
use Rattle.fws_ifcl.specs.declared.diagram.Act.{Act}
use Rattle.fws_ifcl.specs.declared.diagram.Act.TheVariants.{Accept, Skip}
use Rattle.fws_ifcl.specs.declared.diagram.Rule.{Rule}
use Rattle.fws_ifcl.specs.declared.diagram.Stage.{Stage}
use Rattle.fws_ifcl.specs.Walk.{sees}
use Rattle.fws_ifcl_rules.specs.Rules.{ruled, always}
use Rattle.fws_ipt_ifcl.specs.declared.side.SideTest.TheVariants.{Each}
use Rattle.fws_ipt_ifcl.specs.Blocks.{guarded_writes, side, at_side, sided, side_writes}
use Rattle.fws_ipt_ifcl.proofs.Guarding.{written, is_write, are_writes, written_by}

-- what is gathered from rules on, of which the first has the place at, where those before a place are passed over: add puts what belongs
-- to a place ahead, and an accept ends it
pub record IsGathered {X : Type 0} (site : Site) (p : Packet) (k : Kind) (stage : Stage) (go : ℕ → List Rule → ℕ → Transit → X) (add : ℕ → X → X) (accept : Transit → X) : Type 0 where
  pub here : (at : ℕ) (rules : List Rule) (to : ℕ) (t : Transit) → to ≤ at → go at rules to t ≡ go at rules 0 t
  pub over : (at : ℕ) (rules rest : List Rule) (to : ℕ) (t : Transit) → at + length rules ≤ to → go at (rules ++ rest) to t ≡ go (at + length rules) rest to t
  pub skips : (at to : ℕ) (test : List Lit) (rest : List Rule) (t : Transit)
      → go at (ruled test (Skip to) ∷ rest) 0 t ≡ cond (holds test (sees site k stage t)) (add at (go (suc at) rest to t)) (go (suc at) rest 0 t)
  pub writes : (at : ℕ) (act : Act) (test : List Lit) (rest : List Rule) (t : Transit) → is_write act ≡ true
      → go at (ruled test act ∷ rest) 0 t ≡ cond (holds test (sees site k stage t)) (add at (go (suc at) rest 0 (written p act t))) (go (suc at) rest 0 t)
  pub accepts : (at : ℕ) (test : List Lit) (rest : List Rule) (t : Transit)
      → go at (ruled test Accept ∷ rest) 0 t ≡ cond (holds test (sees site k stage t)) (add at (accept t)) (go (suc at) rest 0 t)

and_always : (b : Bool) → (b && true) ≡ b
and_always true = refl
and_always false = refl

and_never : (b : Bool) → (b && false) ≡ false
and_never true = refl
and_never false = refl

module _ {X : Type 0} (site : Site) (p : Packet) (k : Kind) (stage : Stage) (go : ℕ → List Rule → ℕ → Transit → X) (add : ℕ → X → X) (accept : Transit → X)
    (is : IsGathered site p k stage go add accept) (outward : Bool) where
  abbrev sight : List Lit → Transit → Bool
  sight test t = holds test (sees site k stage t)

  -- nothing belongs to the places from one on, up to another
  abbrev pub Quiet : ℕ → ℕ → Type 0
  Quiet at to = (i : ℕ) → at ≤ i → i < to → (x : X) → add i x ≡ x

  -- whether the stage is on the side
  abbrev pub IsThere : Bool → Type 0
  IsThere b = (t : Transit) → lit_holds (sees site k stage t) (side outward) ≡ b

  both_sides : (b : Bool) → IsThere b → (test : List Lit) (t : Transit) → sight (at_side outward test) t ≡ (sight test t && (b && true))
  both_sides b there test t =
      list_all-append (lit_holds (sees site k stage t)) test (side outward ∷ []) ∙ ap (λ x. sight test t && (x && true)) (there t)

  on_side : IsThere true → (test : List Lit) (t : Transit) → sight (at_side outward test) t ≡ sight test t
  on_side there test t = both_sides true there test t ∙ and_always (sight test t)

  off_side : IsThere false → (test : List Lit) (t : Transit) → sight (at_side outward test) t ≡ false
  off_side there test t = both_sides false there test t ∙ and_never (sight test t)

  -- a rule more, to whose place nothing belongs
  one_write : (h : Bool) (at : ℕ) (act : Act) (rest : List Rule) (t : Transit) → ((x : X) → add at x ≡ x)
      → cond h (add at (go (suc at) rest 0 (written p act t))) (go (suc at) rest 0 t) ≡ go (suc at) rest 0 (cond h (written p act t) t)
  one_write true at act rest t quiet = quiet (go (suc at) rest 0 (written p act t))
  one_write false at act rest t quiet = refl

  -- on the other side no rule acts
  passed_by : IsThere false → (at : ℕ) (writes : List Rule) (more : List Lit) (rest : List Rule) (t : Transit) → are_writes writes ≡ true
      → go at (map (sided outward) (writes ++ ruled more Accept ∷ []) ++ rest) 0 t ≡ go (at + suc (length writes)) rest 0 t
  passed_by there at [] more rest t are =
      let next : suc at ≡ at + 1 = omega arith in
      is.accepts at (at_side outward more) rest t
      ∙ ap (λ b. cond b (add at (accept t)) (go (suc at) rest 0 t)) (off_side there more t)
      ∙ ap (λ n. go n rest 0 t) next
  passed_by there at (r ∷ rs) more rest t are =
      let both = and_parts (is_write r.act) (are_writes rs) are in
      let behind = map (sided outward) (rs ++ ruled more Accept ∷ []) ++ rest in
      let far : suc at + suc (length rs) ≡ at + suc (suc (length rs)) = omega arith in
      is.writes at r.act (at_side outward r.cond) behind t both.0
      ∙ ap (λ b. cond b (add at (go (suc at) behind 0 (written p r.act t))) (go (suc at) behind 0 t)) (off_side there r.cond t)
      ∙ passed_by there (suc at) rs more rest t both.1
      ∙ ap (λ n. go n rest 0 t) far

  -- on the side the rules write, and end the stage where more holds
  acted : IsThere true → (at : ℕ) (writes : List Rule) (more : List Lit) (rest : List Rule) (t : Transit) → are_writes writes ≡ true → Quiet at (at + suc (length writes))
      → go at (map (sided outward) (writes ++ ruled more Accept ∷ []) ++ rest) 0 t
      ≡ cond (sight more (written_by site p k stage writes t)) (accept (written_by site p k stage writes t)) (go (at + suc (length writes)) rest 0 (written_by site p k stage writes t))
  acted there at [] more rest t are quiet =
      let next : suc at ≡ at + 1 = omega arith in
      is.accepts at (at_side outward more) rest t
      ∙ ap (λ b. cond b (add at (accept t)) (go (suc at) rest 0 t)) (on_side there more t)
      ∙ ap (λ x. cond (sight more t) x (go (suc at) rest 0 t)) (quiet at (omega arith) (omega arith) (accept t))
      ∙ ap (λ n. cond (sight more t) (accept t) (go n rest 0 t)) next
  acted there at (r ∷ rs) more rest t are quiet =
      let both = and_parts (is_write r.act) (are_writes rs) are in
      let behind = map (sided outward) (rs ++ ruled more Accept ∷ []) ++ rest in
      let far : suc at + suc (length rs) ≡ at + suc (suc (length rs)) = omega arith in
      let now = cond (sight r.cond t) (written p r.act t) t in
      let end = written_by site p k stage rs now in
      is.writes at r.act (at_side outward r.cond) behind t both.0
      ∙ ap (λ b. cond b (add at (go (suc at) behind 0 (written p r.act t))) (go (suc at) behind 0 t)) (on_side there r.cond t)
      ∙ one_write (sight r.cond t) at r.act behind t (quiet at (omega arith) (omega arith))
      ∙ acted there (suc at) rs more rest now both.1 (λ i low high x. quiet i (omega (arith, low)) (omega (arith, high, far)) x)
      ∙ ap (λ n. cond (sight more end) (accept end) (go n rest 0 end)) far

  -- either of them
  either : (b : Bool) → IsThere b → (at : ℕ) (writes : List Rule) (more : List Lit) (rest : List Rule) (t : Transit) → are_writes writes ≡ true → Quiet at (at + suc (length writes))
      → go at (map (sided outward) (writes ++ ruled more Accept ∷ []) ++ rest) 0 t
      ≡ cond b
      (cond (sight more (written_by site p k stage writes t)) (accept (written_by site p k stage writes t)) (go (at + suc (length writes)) rest 0 (written_by site p k stage writes t)))
      (go (at + suc (length writes)) rest 0 t)
  either true there at writes more rest t are quiet = acted there at writes more rest t are quiet
  either false there at writes more rest t are quiet = passed_by there at writes more rest t are

  branches : (h : Bool) (a b c d : X) → a ≡ c → b ≡ d → cond h a b ≡ cond h c d
  branches true a b c d e f = e
  branches false a b c d e f = f

  -- the whole block: where the condition holds its first place counts, and on the side the rules write and end the stage; else the walk goes on
  -- behind it
  pub asked : (b : Bool) → IsThere b → (at : ℕ) (test : List Lit) (writes : List Rule) (more : List Lit) (rest : List Rule) (t : Transit) (width : ℕ) → are_writes writes ≡ true
      → 3 + length writes ≡ width → Quiet (suc at) (at + width)
      → go at (side_writes Each at test outward more writes ++ rest) 0 t
      ≡ cond (sight test t)
      (add at (cond b
      (cond (sight more (written_by site p k stage writes t)) (accept (written_by site p k stage writes t)) (go (at + width) rest 0 (written_by site p k stage writes t)))
      (go (at + width) rest 0 t)))
      (go (at + width) rest 0 t)
  asked b there at test writes more rest t width are wide quiet =
      let inner = writes ++ ruled more Accept ∷ [] in
      let body = map (sided outward) inner in
      let past = always (Skip (at + (2 + length body))) in
      let end = written_by site p k stage writes t in
      let long : length inner ≡ length writes + 1 = length-append writes (ruled more Accept ∷ []) in
      let same : length body ≡ length inner = length-map inner (sided outward) in
      let two : suc at + 1 ≡ at + 2 = omega arith in
      let far : (at + 2) + suc (length writes) ≡ at + width = omega (arith, wide) in
      let yes : go (suc at) (past ∷ body ++ rest) (at + 2) t
      ≡ cond b (cond (sight more end) (accept end) (go (at + width) rest 0 end)) (go (at + width) rest 0 t) =
      is.over (suc at) (past ∷ []) (body ++ rest) (at + 2) t (omega arith)
      ∙ is.here (suc at + 1) (body ++ rest) (at + 2) t (omega arith)
      ∙ ap (λ n. go n (body ++ rest) 0 t) two
      ∙ either b there (at + 2) writes more rest t are (λ i low high x. quiet i (omega (arith, low)) (omega (arith, high, far)) x)
      ∙ ap (λ n. cond b (cond (sight more end) (accept end) (go n rest 0 end)) (go n rest 0 t)) far in
      let behind : suc (suc at) + length body ≡ at + width = omega (arith, wide, long, same) in
      let no : go (suc at) (past ∷ body ++ rest) 0 t ≡ go (at + width) rest 0 t =
      is.skips (suc at) (at + (2 + length body)) [] (body ++ rest) t
      ∙ quiet (suc at) (omega arith) (omega (arith, wide)) (go (suc (suc at)) (body ++ rest) (at + (2 + length body)) t)
      ∙ is.over (suc (suc at)) body rest (at + (2 + length body)) t (omega arith)
      ∙ is.here (suc (suc at) + length body) rest (at + (2 + length body)) t (omega arith)
      ∙ ap (λ n. go n rest 0 t) behind in
      is.skips at (at + 2) test (past ∷ body ++ rest) t
      ∙ branches (sight test t) _ _ _ _ (ap (add at) yes) no

  -- a block without a side that writes one end and ends the stage
  pub met_write : (at : ℕ) (test : List Lit) (act : Act) (rest : List Rule) (t : Transit) → is_write act ≡ true → Quiet (suc at) (at + 4)
      → go at (guarded_writes at test (always act ∷ []) ++ rest) 0 t ≡ cond (sight test t) (add at (accept (written p act t))) (go (at + 4) rest 0 t)
  met_write at test act rest t writes quiet =
      let last = always Accept ∷ rest in
      let body = always act ∷ last in
      let past = always (Skip (at + 4)) in
      let end = written p act t in
      let two : suc at + 1 ≡ at + 2 = omega arith in
      let yes : go (suc at) (past ∷ body) (at + 2) t ≡ accept end =
      is.over (suc at) (past ∷ []) body (at + 2) t (omega arith)
      ∙ is.here (suc at + 1) body (at + 2) t (omega arith)
      ∙ ap (λ n. go n body 0 t) two
      ∙ is.writes (at + 2) act [] last t writes
      ∙ quiet (at + 2) (omega arith) (omega arith) (go (suc (at + 2)) last 0 end)
      ∙ is.accepts (suc (at + 2)) [] rest end
      ∙ quiet (suc (at + 2)) (omega arith) (omega arith) (accept end) in
      let behind : suc (suc at) + 2 ≡ at + 4 = omega arith in
      let no : go (suc at) (past ∷ body) 0 t ≡ go (at + 4) rest 0 t =
      is.skips (suc at) (at + 4) [] body t
      ∙ quiet (suc at) (omega arith) (omega arith) (go (suc (suc at)) body (at + 4) t)
      ∙ is.over (suc (suc at)) (always act ∷ always Accept ∷ []) rest (at + 4) t (omega arith)
      ∙ is.here (suc (suc at) + 2) rest (at + 4) t (omega arith)
      ∙ ap (λ n. go n rest 0 t) behind in
      is.skips at (at + 2) test (past ∷ body) t
      ∙ branches (sight test t) _ _ _ _ (ap (add at) yes) no
