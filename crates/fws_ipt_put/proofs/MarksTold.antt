-- Marks told of row by row.
use Rattle.std.proofs.Common.{◌≡◌, ◌≢◌, ℕ, zero, suc, ◌+◌, ◌<◌, ◌≤◌, Bool, true, false, ◌||◌, nat_le, nat_lt, get_or, take, length, map, List, [], ◌∷◌, ◌++◌, All, arith, refl, sym, ap, ◌∙◌, subst}
use Rattle.std.proofs.lemmas.Bool.{false≢true, and_parts, leb-true, lt-ltb}
use Rattle.std.proofs.lemmas.List.Elements.{All-push, All-weaker}
use Rattle.std.specs.List.{list_any}
use Rattle.fws_iv.specs.declared.iv.Iv.{Iv}
use Rattle.fws_iv.specs.Ivs.{has, in_part}
use Rattle.fws_iv.specs.Prefixes.{IsBlock, some_prefix_has}
use Rattle.fws_num.specs.declared.prefix.Prefix.{Prefix}
use Rattle.fws_net.specs.declared.outcome.Outcome.{Outcome}
use Rattle.fws_net.specs.declared.outcome.Outcome.TheVariants.{Accept}
use Rattle.fws_net.specs.declared.outcome.Rewrite.{Rewrite}
use Rattle.fws_tree.specs.declared.row.Row.{Row}
use Rattle.fws_ipt_put.specs.declared.telling.Uses.{Uses}
use Rattle.fws_ipt_put.specs.declared.marks.Mark.{Mark}
use Rattle.fws_ipt_put.specs.Gathered.{Covers, CoversAll, TellsOf, TellsOfAll}
use Rattle.fws_ipt_put.specs.Marks.{AreBlocks, FitsEnd, is_network}

-- a member that isn't 0 lies in a part that ends above 0
other_step : (x : Iv) (e : ℕ) (rest later : Bool) → e ≢ 0 → (b : Bool) → in_part x e ≡ b → (b || rest) ≡ true → (rest ≡ true → later ≡ true) → (nat_lt 0 x.hi || later) ≡ true
other_step x e rest later other true here h on =
    let high : e ≤ x.hi = leb-true e x.hi (and_parts (nat_le x.lo e) (nat_le e x.hi) here).1 in
    ap (λ b. b || later) (lt-ltb 0 x.hi (omega (arith, high, other)))
other_step x e rest later other false here h on = by_test (nat_lt 0 x.hi) (on h) where
  by_test : (b : Bool) → later ≡ true → (b || later) ≡ true
  by_test true h = refl
  by_test false h = h

other_there : (s : List Iv) (e : ℕ) → has s e ≡ true → e ≢ 0 → list_any (λ (part : Iv). nat_lt 0 part.hi) s ≡ true
other_there [] e h other = absurd (false≢true h)
other_there (x ∷ s) e h other =
    other_step x e (has s e) (list_any (λ (part : Iv). nat_lt 0 part.hi) s) other (in_part x e) refl h (λ rest. other_there s e rest other)

pub mark_tells : (rows : List (Row Outcome)) (w : Rewrite) (uses : Uses) (tcp udp arrives sends : Bool) (dst_blocks src_blocks : List Prefix)
    → CoversAll w uses rows → tcp ≡ has uses.protos 6 → udp ≡ has uses.protos 17 → arrives ≡ list_any (λ (part : Iv). nat_lt 0 part.hi) uses.entries → sends ≡ has uses.entries 0
    → AreBlocks w.dst dst_blocks → AreBlocks w.src src_blocks → All IsBlock dst_blocks → All IsBlock src_blocks
    → (is_network w.dst ≡ true → (v : ℕ) → has uses.dsts v ≡ true → some_prefix_has dst_blocks v ≡ true)
    → (is_network w.src ≡ true → (v : ℕ) → has uses.srcs v ≡ true → some_prefix_has src_blocks v ≡ true)
    → FitsEnd w.dst → FitsEnd w.src
    → TellsOfAll rows (record { rewrite = w; tcp = tcp; udp = udp; arrives = arrives; sends = sends; dst_blocks = dst_blocks; src_blocks = src_blocks })
mark_tells rows w uses tcp udp arrives sends dst_blocks src_blocks covers tcp_is udp_is arrives_is sends_is dst_are src_are dst_sound src_sound dst_has src_has dst_fits src_fits =
    let mark : Mark = record { rewrite = w; tcp = tcp; udp = udp; arrives = arrives; sends = sends; dst_blocks = dst_blocks; src_blocks = src_blocks } in
    record {
      of_rows = All-weaker (λ (row : Row Outcome). row.leaf ≡ Accept w → Covers uses row) (λ (row : Row Outcome). row.leaf ≡ Accept w → TellsOf mark row)
          (λ row of_leaf leaf.
          let c = of_leaf leaf in
          record {
            twelve = c.twelve;
            tcp = λ h. tcp_is ∙ c.protos 6 h;
            udp = λ h. udp_is ∙ c.protos 17 h;
            arrives = λ e h other. arrives_is ∙ other_there uses.entries e (c.entries e h) other;
            sends = λ h. sends_is ∙ c.entries 0 h;
            dst = λ network v h. dst_has network v (c.dsts v h);
            src = λ network v h. src_has network v (c.srcs v h);
          }) rows covers;
      dst_blocks = dst_are;
      src_blocks = src_are;
      dst_sound = dst_sound;
      src_sound = src_sound;
      dst_fits = dst_fits;
      src_fits = src_fits;
    }

-- one more mark
map_push : (f : Mark → Rewrite) (xs : List Mark) (x : Mark) → map f (xs ++ x ∷ []) ≡ map f xs ++ f x ∷ []
map_push f [] x = refl
map_push f (y ∷ xs) x = ap (λ l. f y ∷ l) (map_push f xs x)

take_push : (xs : List Rewrite) (i : ℕ) (w : Rewrite) → i < length xs → w ≡ get_or xs i w → take (suc i) xs ≡ take i xs ++ w ∷ []
take_push [] i w low is = absurd (omega (arith, low))
take_push (x ∷ xs) zero w low is = ap (λ y. y ∷ []) (sym is)
take_push (x ∷ xs) (suc i) w low is = ap (λ l. x ∷ l) (take_push xs i w (omega (arith, low)) is)

pub marks_more : (rows : List (Row Outcome)) (rewrites : List Rewrite) (old new : List Mark) (mark : Mark) (i : ℕ) (w : Rewrite) → i < length rewrites → w ≡ get_or rewrites i w
    → map (λ (m : Mark). m.rewrite) old ≡ take i rewrites → All (TellsOfAll rows) old → mark.rewrite ≡ w → TellsOfAll rows mark → new ≡ old ++ mark ∷ []
    → (map (λ (m : Mark). m.rewrite) new ≡ take (i + 1) rewrites) × All (TellsOfAll rows) new
marks_more rows rewrites old new mark i w low is before tell mark_is tells new_is =
    let next : suc i ≡ i + 1 = omega arith in (
      ap (map (λ (m : Mark). m.rewrite)) new_is ∙ map_push (λ (m : Mark). m.rewrite) old mark ∙ ap (λ l. l ++ mark.rewrite ∷ []) before ∙ ap (λ x. take i rewrites ++ x ∷ []) mark_is
          ∙ sym (take_push rewrites i w low is) ∙ ap (λ n. take n rewrites) next,
      subst (All (TellsOfAll rows)) (sym new_is) (All-push (TellsOfAll rows) old mark tell tells),
    )
