-- Steps of a walk.
use Rattle.std.proofs.Common.{◌≡◌, ℕ, suc, ◌+◌, ◌<◌, ◌≤◌, true, false, Option, None, Some, option_and_then, List, [], ◌∷◌, ◌++◌, append_assoc, append-nil, length, get_or, drop, nat_lt, add-one, drop-cons, arith, refl, sym, ◌∙◌, ap, subst}
use Rattle.std.proofs.lemmas.Bool.{le-ltb, lt-ltb}
use Rattle.std.specs.Option.{option_map_or}
use Rattle.fws_net.specs.declared.packet.Packet.{Packet}
use Rattle.fws_net.specs.declared.connection.Kind.{Kind}
use Rattle.fws_net.specs.declared.site.Site.{Site}
use Rattle.fws_net.specs.declared.transit.Transit.{Transit}
use Rattle.fws_flat.specs.declared.code.Ins.{Ins}
use Rattle.fws_flat.specs.declared.code.Part.{Part}
use Rattle.fws_flat.specs.declared.step.Step.{Step}
use Rattle.fws_flat.specs.declared.step.Step.TheVariants.{Leave, Onwards}
use Rattle.fws_flat.specs.Uses.{used_behind, code_used, part_used, parts_used}
use Rattle.fws_flat.specs.Walk.{stepped, code_walk, part_walk, parts_walk}

-- the element at a place, and what is behind it
pub dropped : {X : Type 0} (xs : List X) (i : ℕ) (x : X) → i < length xs → x ≡ get_or xs i x → drop i xs ≡ x ∷ drop (i + 1) xs
dropped xs i x lt is = rw (add-one, drop-cons xs i x) (ap (λ y. y ∷ drop (suc i) xs) (sym is))

module _ (site : Site) (p : Packet) (k : Kind) (part : Part) where
  -- a place at the first instruction or before it passes over none
  not_passed : (at : ℕ) (i : Ins) (is : List Ins) (to : ℕ) (t : Transit) → to ≤ at
      → code_walk site p k part at (i ∷ is) to t ≡ code_walk site p k part at (i ∷ is) 0 t
  not_passed at i is to t le =
      let here : nat_lt at to ≡ false = le-ltb at to le in
      let zeroth : nat_lt at 0 ≡ false = le-ltb at 0 (omega arith) in
      rw (here, zeroth) refl

  not_passed_used : (at : ℕ) (i : Ins) (is : List Ins) (to : ℕ) (t : Transit) → to ≤ at
      → code_used site p k part at (i ∷ is) to t ≡ code_used site p k part at (i ∷ is) 0 t
  not_passed_used at i is to t le =
      let here : nat_lt at to ≡ false = le-ltb at to le in
      let zeroth : nat_lt at 0 ≡ false = le-ltb at 0 (omega arith) in
      rw (here, zeroth) refl

  -- An instruction that is passed over

  pub passed_over : (at here next : ℕ) (i : Ins) (rest code : List Ins) (to : ℕ) (t : Transit) (whole : Option Transit)
      → at < to → at ≡ here → next ≡ suc here → code ≡ i ∷ rest → code_walk site p k part here code to t ≡ whole → code_walk site p k part next rest to t ≡ whole
  passed_over at here next i rest code to t whole lt same is_next is e =
      let ahead : nat_lt here to ≡ true = lt-ltb here to (subst (λ n. n < to) same lt) in
      let over : code_walk site p k part here (i ∷ rest) to t ≡ code_walk site p k part (suc here) rest to t = rw ahead refl in
      ap (λ n. code_walk site p k part n rest to t) is_next ∙ sym over ∙ sym (ap (λ code. code_walk site p k part here code to t) is) ∙ e

  pub log_passed_over : (at here next : ℕ) (i : Ins) (rest code : List Ins) (to : ℕ) (t : Transit) (log whole : List ℕ)
      → at < to → at ≡ here → next ≡ suc here → code ≡ i ∷ rest → log ++ code_used site p k part here code to t ≡ whole → log ++ code_used site p k part next rest to t ≡ whole
  log_passed_over at here next i rest code to t log whole lt same is_next is e =
      let ahead : nat_lt here to ≡ true = lt-ltb here to (subst (λ n. n < to) same lt) in
      let over : code_used site p k part here (i ∷ rest) to t ≡ code_used site p k part (suc here) rest to t = rw ahead refl in
      ap (λ xs. log ++ xs) (ap (λ n. code_used site p k part n rest to t) is_next ∙ sym over ∙ sym (ap (λ code. code_used site p k part here code to t) is)) ∙ e

  -- The walk from the first instruction that isn't passed over on, in terms of its step

  walk_made : (at here : ℕ) (i : Ins) (rest code : List Ins) (to : ℕ) (t : Transit) (step : Step) (whole : Option Transit)
      → to ≤ at → at ≡ here → code ≡ i ∷ rest → code_walk site p k part here code to t ≡ whole
      → stepped (code_walk site p k part (suc at) rest) step ≡ code_walk site p k part at (i ∷ rest) 0 t
      → stepped (code_walk site p k part (suc here) rest) step ≡ whole
  walk_made at here i rest code to t step whole le same is e made =
      let le_here : to ≤ here = subst (λ n. to ≤ n) same le in
      subst (λ n. stepped (code_walk site p k part (suc n) rest) step ≡ code_walk site p k part n (i ∷ rest) 0 t) same made
      ∙ sym (not_passed here i rest to t le_here)
      ∙ sym (ap (λ code. code_walk site p k part here code to t) is)
      ∙ e

  log_made : (at here : ℕ) (i : Ins) (rest code : List Ins) (to : ℕ) (t : Transit) (step : Step) (before after whole : List ℕ)
      → to ≤ at → at ≡ here → code ≡ i ∷ rest → before ++ code_used site p k part here code to t ≡ whole
      → after ++ used_behind (code_used site p k part (suc at) rest) step ≡ before ++ code_used site p k part at (i ∷ rest) 0 t
      → after ++ used_behind (code_used site p k part (suc here) rest) step ≡ whole
  log_made at here i rest code to t step before after whole le same is e made =
      let le_here : to ≤ here = subst (λ n. to ≤ n) same le in
      subst (λ n. after ++ used_behind (code_used site p k part (suc n) rest) step ≡ before ++ code_used site p k part n (i ∷ rest) 0 t) same made
      ∙ ap (λ xs. before ++ xs) (sym (not_passed_used here i rest to t le_here) ∙ sym (ap (λ code. code_used site p k part here code to t) is))
      ∙ e

  -- where its act goes on at a place

  pub walk_leads : (at here next : ℕ) (i : Ins) (rest code : List Ins) (to place : ℕ) (t u : Transit) (step : Step) (whole : Option Transit)
      → to ≤ at → at ≡ here → next ≡ suc here → code ≡ i ∷ rest → step ≡ Onwards place u → code_walk site p k part here code to t ≡ whole
      → stepped (code_walk site p k part (suc at) rest) step ≡ code_walk site p k part at (i ∷ rest) 0 t
      → code_walk site p k part next rest place u ≡ whole
  walk_leads at here next i rest code to place t u step whole le same is_next is goes e made =
      ap (λ n. code_walk site p k part n rest place u) is_next
      ∙ sym (ap (stepped (code_walk site p k part (suc here) rest)) goes)
      ∙ walk_made at here i rest code to t step whole le same is e made

  pub log_leads : (at here next : ℕ) (i : Ins) (rest code : List Ins) (to place : ℕ) (t u : Transit) (step : Step) (before after whole : List ℕ)
      → to ≤ at → at ≡ here → next ≡ suc here → code ≡ i ∷ rest → step ≡ Onwards place u → before ++ code_used site p k part here code to t ≡ whole
      → after ++ used_behind (code_used site p k part (suc at) rest) step ≡ before ++ code_used site p k part at (i ∷ rest) 0 t
      → after ++ code_used site p k part next rest place u ≡ whole
  log_leads at here next i rest code to place t u step before after whole le same is_next is goes e made =
      ap (λ n. after ++ code_used site p k part n rest place u) is_next
      ∙ sym (ap (λ s. after ++ used_behind (code_used site p k part (suc here) rest) s) goes)
      ∙ log_made at here i rest code to t step before after whole le same is e made

  -- where its act ends the part

  pub walk_ends : (at here : ℕ) (i : Ins) (rest code : List Ins) (to : ℕ) (t : Transit) (step : Step) (end whole : Option Transit)
      → to ≤ at → at ≡ here → code ≡ i ∷ rest → step ≡ Leave end → code_walk site p k part here code to t ≡ whole
      → stepped (code_walk site p k part (suc at) rest) step ≡ code_walk site p k part at (i ∷ rest) 0 t
      → end ≡ whole
  walk_ends at here i rest code to t step end whole le same is ends e made =
      sym (ap (stepped (code_walk site p k part (suc here) rest)) ends) ∙ walk_made at here i rest code to t step whole le same is e made

  pub log_ends : (at here : ℕ) (i : Ins) (rest code : List Ins) (to : ℕ) (t : Transit) (step : Step) (end : Option Transit) (before after whole : List ℕ)
      → to ≤ at → at ≡ here → code ≡ i ∷ rest → step ≡ Leave end → before ++ code_used site p k part here code to t ≡ whole
      → after ++ used_behind (code_used site p k part (suc at) rest) step ≡ before ++ code_used site p k part at (i ∷ rest) 0 t
      → after ≡ whole
  log_ends at here i rest code to t step end before after whole le same is ends e made =
      sym (append-nil after)
      ∙ sym (ap (λ s. after ++ used_behind (code_used site p k part (suc here) rest) s) ends)
      ∙ log_made at here i rest code to t step before after whole le same is e made

-- The walk behind a part

module _ (code : List Ins) (site : Site) (p : Packet) (k : Kind) where
  parts_led : (part : Part) (rest parts : List Part) (t : Transit) (o : Option Transit) (whole : Option Transit)
      → parts ≡ part ∷ rest → o ≡ part_walk code site p k part t → parts_walk code site p k parts t ≡ whole → option_and_then (parts_walk code site p k rest) o ≡ whole
  parts_led part rest parts t o whole is walked e = ap (option_and_then (parts_walk code site p k rest)) walked ∙ sym (ap (λ ps. parts_walk code site p k ps t) is) ∙ e

  parts_logged : (part : Part) (rest parts : List Part) (t : Transit) (o : Option Transit) (before after whole : List ℕ)
      → parts ≡ part ∷ rest → o ≡ part_walk code site p k part t → after ≡ before ++ part_used code site p k part t → before ++ parts_used code site p k parts t ≡ whole
      → after ++ option_map_or (parts_used code site p k rest) o [] ≡ whole
  parts_logged part rest parts t o before after whole is walked logged e =
      ap (λ xs. xs ++ option_map_or (parts_used code site p k rest) o []) logged
      ∙ append_assoc before (part_used code site p k part t) (option_map_or (parts_used code site p k rest) o [])
      ∙ ap (λ x. before ++ (part_used code site p k part t ++ option_map_or (parts_used code site p k rest) x [])) walked
      ∙ sym (ap (λ ps. before ++ parts_used code site p k ps t) is)
      ∙ e

  pub parts_on : (part : Part) (rest parts : List Part) (t u : Transit) (o : Option Transit) (whole : Option Transit)
      → parts ≡ part ∷ rest → o ≡ part_walk code site p k part t → o ≡ Some u → parts_walk code site p k parts t ≡ whole → parts_walk code site p k rest u ≡ whole
  parts_on part rest parts t u o whole is walked goes e = sym (ap (option_and_then (parts_walk code site p k rest)) goes) ∙ parts_led part rest parts t o whole is walked e

  pub parts_dropped : (part : Part) (rest parts : List Part) (t : Transit) (o : Option Transit) (whole : Option Transit)
      → parts ≡ part ∷ rest → o ≡ part_walk code site p k part t → o ≡ None → parts_walk code site p k parts t ≡ whole → None ≡ whole
  parts_dropped part rest parts t o whole is walked ends e = sym (ap (option_and_then (parts_walk code site p k rest)) ends) ∙ parts_led part rest parts t o whole is walked e

  pub log_parts_on : (part : Part) (rest parts : List Part) (t u : Transit) (o : Option Transit) (before after whole : List ℕ)
      → parts ≡ part ∷ rest → o ≡ part_walk code site p k part t → after ≡ before ++ part_used code site p k part t → o ≡ Some u
      → before ++ parts_used code site p k parts t ≡ whole → after ++ parts_used code site p k rest u ≡ whole
  log_parts_on part rest parts t u o before after whole is walked logged goes e =
      sym (ap (λ x. after ++ option_map_or (parts_used code site p k rest) x []) goes) ∙ parts_logged part rest parts t o before after whole is walked logged e

  pub log_parts_dropped : (part : Part) (rest parts : List Part) (t : Transit) (o : Option Transit) (before after whole : List ℕ)
      → parts ≡ part ∷ rest → o ≡ part_walk code site p k part t → after ≡ before ++ part_used code site p k part t → o ≡ None
      → before ++ parts_used code site p k parts t ≡ whole → after ≡ whole
  log_parts_dropped part rest parts t o before after whole is walked logged ends e =
      sym (append-nil after) ∙ sym (ap (λ x. after ++ option_map_or (parts_used code site p k rest) x []) ends)
      ∙ parts_logged part rest parts t o before after whole is walked logged e
