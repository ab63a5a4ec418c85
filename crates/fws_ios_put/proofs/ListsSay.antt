-- What a list says of a packet, by what each of its blocks does.
use Rattle.std.proofs.Common.{◌≡◌, Bool, true, false, not, cond, refl, sym, ap, ◌∙◌}
use Rattle.std.proofs.lemmas.Bool.{false≢true}
use Rattle.fws_ios_put.specs.Blocks.{Marks, said_ahead, said_behind}
use Rattle.fws_ios_put.specs.Choices.{IsAsked, said}

tail_is : (flagged tcp new0 new1 more less : Bool) → (flagged ≡ true → tcp ≡ true) → Marks flagged tcp new1 new0 more
    → Marks flagged tcp (not new1) (not new0) less → said_behind more less new0 ≡ cond flagged new1 new0
tail_is true tcp new0 true true less under m l = refl
tail_is true tcp new0 false true less under m l = absurd (false≢true (m.sound refl))
tail_is true tcp new0 true false true under m l = absurd (false≢true (l.sound refl))
tail_is true tcp new0 false false true under m l = refl
tail_is true tcp true true false false under m l = refl
tail_is true tcp false false false false under m l = refl
tail_is true tcp true false false false under m l = absurd (false≢true (l.whole refl (under refl) refl))
tail_is true tcp false true false false under m l = absurd (false≢true (m.whole refl (under refl) refl))
tail_is false tcp new0 new1 true less under m l = absurd (false≢true (m.marked refl))
tail_is false tcp new0 new1 false true under m l = absurd (false≢true (l.marked refl))
tail_is false tcp new0 new1 false false under m l = refl

-- a list without the entry for packets of connections, where none are permitted in these alone
pub plain_list : (est flagged tcp new0 some0 new1 some1 more less : Bool) → IsAsked flagged tcp new0 some0 new1 some1
    → Marks flagged tcp new1 new0 more → Marks flagged tcp (not new1) (not new0) less
    → (some0 ≡ true → new0 ≡ true) → (tcp ≡ true → some1 ≡ true → new1 ≡ true)
    → said_behind more less new0 ≡ said est flagged new0 some0 new1 some1
plain_list est flagged tcp new0 some0 new1 some1 more less asked m l back0 back1 =
    tail_is flagged tcp new0 new1 more less asked.under m l ∙ by est flagged refl where
      same : (a b : Bool) → (a ≡ true → b ≡ true) → (b ≡ true → a ≡ true) → a ≡ b
      same true true f g = refl
      same false false f g = refl
      same true false f g = sym (f refl)
      same false true f g = g refl

      by : (e f : Bool) → flagged ≡ f → cond f new1 new0 ≡ said e f new0 some0 new1 some1
      by false f is = refl
      by true true is = same new1 some1 asked.acked_go (back1 (asked.under is))
      by true false is = same new0 some0 asked.go back0

-- a list that begins with it, where all are permitted in some connection
pub begun_list : (est flagged tcp new0 some0 new1 some1 more less : Bool) → IsAsked flagged tcp new0 some0 new1 some1
    → Marks flagged tcp new1 new0 more → Marks flagged tcp (not new1) (not new0) less
    → some0 ≡ true → (tcp ≡ true → some1 ≡ true)
    → cond est true (said_behind more less new0) ≡ said est flagged new0 some0 new1 some1
begun_list est flagged tcp new0 some0 new1 some1 more less asked m l all0 all1 =
    ap (cond est true) (tail_is flagged tcp new0 new1 more less asked.under m l) ∙ by est flagged refl where
      by : (e f : Bool) → flagged ≡ f → cond e true (cond f new1 new0) ≡ said e f new0 some0 new1 some1
      by false f is = refl
      by true true is = sym (all1 (asked.under is))
      by true false is = sym all0

-- a list with blocks ahead of it
pub whole_list : (est flagged tcp new0 some0 new1 some1 first second third more less : Bool) → IsAsked flagged tcp new0 some0 new1 some1
    → Marks flagged tcp new1 some0 first
    → second ≡ not some0
    → Marks flagged tcp (not some1) (not some0) third
    → Marks flagged tcp new1 new0 more → Marks flagged tcp (not new1) (not new0) less
    → said_ahead first second third (cond est true (said_behind more less new0)) ≡ said est flagged new0 some0 new1 some1
whole_list est flagged tcp new0 some0 new1 some1 first second third more less asked a b c m l =
    ap (λ r. said_ahead first second third (cond est true r)) (tail_is flagged tcp new0 new1 more less asked.under m l)
    ∙ ap (λ s. said_ahead first s third (cond est true (cond flagged new1 new0))) b
    ∙ by est flagged new0 some0 new1 some1 first third asked a c where
      by : (e f n0 s0 n1 s1 x z : Bool) → IsAsked f tcp n0 s0 n1 s1 → Marks f tcp n1 s0 x → Marks f tcp (not s1) (not s0) z
          → said_ahead x (not s0) z (cond e true (cond f n1 n0)) ≡ said e f n0 s0 n1 s1
      by e false n0 s0 n1 s1 true z asked a c = absurd (false≢true (a.marked refl))
      by e false n0 s0 n1 s1 false true asked a c = absurd (false≢true (c.marked refl))
      by true false n0 true n1 s1 false false asked a c = refl
      by false false n0 true n1 s1 false false asked a c = refl
      by true false n0 false n1 s1 false false asked a c = refl
      by false false false false n1 s1 false false asked a c = refl
      by false false true false n1 s1 false false asked a c = absurd (false≢true (asked.go refl))
      by true true n0 s0 true s1 true z asked a c = sym (asked.acked_go refl)
      by false true n0 s0 true s1 true z asked a c = refl
      by e true n0 s0 false s1 true z asked a c = absurd (false≢true (a.sound refl))
      by e true n0 false true s1 false z asked a c = absurd (false≢true (a.whole refl (asked.under refl) refl))
      by true true n0 false false false false z asked a c = refl
      by true true n0 false false true false z asked a c = absurd (false≢true (asked.ahead (asked.under refl) refl refl))
      by false true n0 false false s1 false z asked a c = refl
      by e true n0 true n1 true false true asked a c = absurd (false≢true (c.sound refl))
      by true true n0 true n1 false false true asked a c = refl
      by false true n0 true true false false true asked a c = absurd (false≢true (asked.acked_go refl))
      by false true n0 true false false false true asked a c = refl
      by true true n0 true n1 true false false asked a c = refl
      by true true n0 true n1 false false false asked a c = absurd (false≢true (c.whole refl (asked.under refl) refl))
      by false true n0 true n1 s1 false false asked a c = refl
