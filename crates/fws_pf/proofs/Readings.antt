-- What holds of the values of protocols and of interfaces, word by word.
use Rattle.std.proofs.Common.{◌≡◌, ℕ, suc, ◌+◌, ◌≤◌, ◌<◌, Bool, true, false, ◌&&◌, not, cond, nat_le, Option, Some, None, option_map, Result, Ok, Err, List, [], ◌∷◌, length, codes, IfOk, IfSome, arith, refl, sym, subst}
use Rattle.std.specs.List.{list_all}
use Rattle.std.specs.Option.{ok_or, option_or}
use Rattle.std.specs.Str.{bytes_eq}
use Rattle.std.proofs.lemmas.Bool.{false≢true, and_from, cond_both, le-leb, eq-eqb}
use Rattle.fws_num.specs.declared.word.Word.{Word}
use Rattle.fws_num.specs.Protocols.{protocol_of}
use Rattle.fws_net.specs.declared.cause.Cause.{Cause}
use Rattle.fws_net.specs.declared.cause.Cause.TheVariants.{Syntax, NoInterface}
use Rattle.fws_net.specs.declared.packet.Lang.TheVariants.{Pf}
use Rattle.fws_net.specs.declared.site.Iface.{Iface}
use Rattle.fws_net.specs.declared.site.Site.{Site}
use Rattle.fws_net.specs.Faces.{name_in, named_from, entry_named}
use Rattle.fws_rules.specs.Literals.{one}
use Rattle.fws_pf.specs.declared.value_draft.Item.{Item}
use Rattle.fws_pf.specs.declared.value_draft.Part.{Part}
use Rattle.fws_pf.specs.declared.value_draft.Part.TheVariants as parts
use Rattle.fws_pf.specs.declared.value_draft.ValueDraft.{ValueDraft}
use Rattle.fws_pf.specs.declared.value_draft.ValueExpects.{ValueExpects}
use Rattle.fws_pf.specs.declared.value_draft.ValueExpects.TheVariants as expect
use Rattle.fws_pf.specs.declared.value_draft.ValueKind.{ValueKind}
use Rattle.fws_pf.specs.declared.value_draft.ValueKind.TheVariants as kinds
use Rattle.fws_pf.specs.Statements.{is_mark}
use Rattle.fws_pf.specs.Values.{Setting, fresh_value, value_expecting, with_part, taking, part_taken, is_any_mark, interface_part, protocol_part, negating, plain_step, item_step, begin_step, may_be_empty, first_step, next_step, value_expected_step, value_step, ended_value}
use Rattle.fws_pf.proofs.Crossed.{one_part}
use Rattle.fws_pf.proofs.Lists.{all_longer}
use Rattle.fws_pf.proofs.Outcomes.{then_known, either_holds}

-- a value that is one word, or a list of such
abbrev plain : ValueExpects → Bool
plain expect.Value = true
plain expect.First = true
plain expect.Item = true
plain expect.Next = true
plain expect.Negated = true
plain expect.Nothing = true
plain _ = false

-- its kind, whether its values may be negated, and a test that each passes
module _ (own : ValueKind) (may : Bool → Bool) (fits : Part → Bool) where
  abbrev pub item_fits : Item → Bool
  item_fits item = may item.negated && fits item.part

  pub record Reads (v : ValueDraft) : Type 0 where
    pub kind : v.kind ≡ own
    pub expects : plain v.expects ≡ true
    pub negated : may v.negated ≡ true
    pub items : list_all item_fits v.items ≡ true

  abbrev pub Taken : ValueDraft × Bool → Type 0
  Taken next = Reads next.0

  module _ (may_stand : may false ≡ true) where
    pub fresh_reads : Reads (fresh_value own)
    fresh_reads = record { kind = refl; expects = refl; negated = may_stand; items = refl }

    -- a value more
    part_reads : (part : Part) (v : ValueDraft) → fits part ≡ true → Reads v → Reads (with_part part v)
    part_reads part v k h = record {
      kind = h.kind;
      expects = cond_both v.in_list expect.Next expect.Nothing (λ next. plain next ≡ true) (λ e. refl) (λ e. refl);
      negated = may_stand;
      items = all_longer item_fits v.items (record { negated = v.negated; part = part }) h.items (and_from (may v.negated) (fits part) h.negated k);
    }

    pub taken_reads : (read : Result Part Cause) (v : ValueDraft) → IfOk read (λ part. fits part ≡ true) → Reads v → IfOk (part_taken read v) Taken
    taken_reads read v k h = then_known (λ part. fits part ≡ true) Taken read (λ part. taking part v) k (λ part on. part_reads part v on h)

  expecting_reads : (expects : ValueExpects) (v : ValueDraft) → plain expects ≡ true → Reads v → Reads (value_expecting expects v)
  expecting_reads expects v k h = record { kind = h.kind; expects = k; negated = h.negated; items = h.items }

  module _ (setting : Setting) (plain_reads : (w : Word) (v : ValueDraft) → Reads v → IfOk (plain_step setting w v own) Taken)
      (negating_reads : (v : ValueDraft) → Reads v → IfOk (negating own v) Taken) where
    own_reads : (w : Word) (v : ValueDraft) → Reads v → IfOk (plain_step setting w v v.kind) Taken
    own_reads w v h = subst (λ kind. IfOk (plain_step setting w v kind) Taken) (sym h.kind) (plain_reads w v h)

    item_reads : (w : Word) (v : ValueDraft) → Reads v → IfOk (item_step setting w v) Taken
    item_reads w v h =
        either_holds Taken (is_mark w (codes "!")) (negating v.kind v) (plain_step setting w v v.kind)
        (λ e. subst (λ kind. IfOk (negating kind v) Taken) (sym h.kind) (negating_reads v h)) (λ e. own_reads w v h)

    begin_reads : (w : Word) (v : ValueDraft) → Reads v → IfOk (begin_step setting w v) Taken
    begin_reads w v h =
        either_holds Taken (is_mark w (codes "{")) (Ok (record v { in_list = true; expects = expect.First }, true)) (item_step setting w v)
        (λ e. record { kind = h.kind; expects = refl; negated = h.negated; items = h.items }) (λ e. item_reads w v h)

    first_reads : (w : Word) (v : ValueDraft) → Reads v → IfOk (first_step setting w v) Taken
    first_reads w v h =
        either_holds Taken (is_mark w (codes "}") && may_be_empty v.kind) (Ok (value_expecting expect.Nothing v, true)) (item_step setting w v)
        (λ e. expecting_reads expect.Nothing v refl h) (λ e. item_reads w v h)

    next_reads : (w : Word) (v : ValueDraft) → Reads v → IfOk (next_step setting w v) Taken
    next_reads w v h =
        either_holds Taken (is_mark w (codes ",")) (Ok (value_expecting expect.Item v, true)) _ (λ e. expecting_reads expect.Item v refl h)
        (λ e. either_holds Taken (is_mark w (codes "}")) (Ok (value_expecting expect.Nothing v, true)) (item_step setting w v)
        (λ k. expecting_reads expect.Nothing v refl h) (λ k. item_reads w v h))

    expected_reads : (expects : ValueExpects) (w : Word) (v : ValueDraft) → plain expects ≡ true → Reads v → IfOk (value_expected_step setting expects w v) Taken
    expected_reads expect.Value w v k h = begin_reads w v h
    expected_reads expect.First w v k h = first_reads w v h
    expected_reads expect.Item w v k h = item_reads w v h
    expected_reads expect.Next w v k h = next_reads w v h
    expected_reads expect.Negated w v k h = own_reads w v h
    expected_reads expect.Nothing w v k h = h
    expected_reads _ w v k h = absurd (false≢true k)

    pub value_reads : (w : Word) (v : ValueDraft) → Reads v → IfOk (value_step setting w v) Taken
    value_reads w v h = expected_reads v.expects w v h.expects h

  ended_at : (expects : ValueExpects) (v : ValueDraft) → plain expects ≡ true → Reads v → IfSome (ended_value expects v) Reads
  ended_at expect.Value v k h = tt
  ended_at expect.First v k h = tt
  ended_at expect.Item v k h = tt
  ended_at expect.Next v k h = tt
  ended_at expect.Negated v k h = tt
  ended_at expect.Nothing v k h = h
  ended_at _ v k h = absurd (false≢true k)

  pub ended_reads : (v : ValueDraft) → Reads v → IfSome (ended_value v.expects v) Reads
  ended_reads v h = ended_at v.expects v h.expects h

-- Protocols

abbrev pub ReadsProtocols : ValueDraft → Type 0
ReadsProtocols v = Reads kinds.Protocol not one_part v

pub fresh_protocols : ReadsProtocols (fresh_value kinds.Protocol)
fresh_protocols = fresh_reads kinds.Protocol not one_part refl

protocol_known : (o : Option ℕ) → IfOk (ok_or (option_map (λ n. parts.Set (one n n)) o) Syntax) (λ part. one_part part ≡ true)
protocol_known None = tt
protocol_known (Some n) = eq-eqb n n refl

pub protocols_read : (setting : Setting) (w : Word) (v : ValueDraft) → ReadsProtocols v → IfOk (value_step setting w v) (λ next. ReadsProtocols next.0)
protocols_read setting w v h =
    value_reads kinds.Protocol not one_part setting
    (λ x u k. either_holds (Taken kinds.Protocol not one_part) (is_any_mark x) (Err Syntax) (part_taken (protocol_part x.text) u) (λ e. tt)
    (λ e. taken_reads kinds.Protocol not one_part refl (protocol_part x.text) u (protocol_known (protocol_of x.text)) k))
    (λ u k. tt) w v h

-- Interfaces

-- an interface of the site
abbrev pub entry_part : ℕ → Part → Bool
entry_part last (parts.Set (x ∷ xs)) = nat_le 1 x.lo && nat_le x.lo last
entry_part last _ = true

abbrev pub any_sign : Bool → Bool
any_sign negated = true

abbrev pub last_entry : Setting → ℕ
last_entry setting = suc (length setting.site.faces)

abbrev pub ReadsInterfaces : ℕ → ValueDraft → Type 0
ReadsInterfaces last v = Reads kinds.Interface any_sign (entry_part last) v

pub fresh_interfaces : (last : ℕ) → ReadsInterfaces last (fresh_value kinds.Interface)
fresh_interfaces last = fresh_reads kinds.Interface any_sign (entry_part last) refl

named_within : (n : ℕ) (faces : List Iface) (name : List ℕ) → IfSome (named_from n Pf faces name) (λ entry. (n ≤ entry) × (entry < n + length faces))
named_within n [] name = tt
named_within n (face ∷ faces) name =
    cond_both (bytes_eq (name_in Pf face.names) name) (Some n) (named_from (suc n) Pf faces name)
    (λ o. IfSome o (λ entry. (n ≤ entry) × (entry < n + length (face ∷ faces))))
    (λ e. (omega arith, omega arith)) (λ e. wider (named_from (suc n) Pf faces name) (named_within (suc n) faces name))
  where
    wider : (o : Option ℕ) → IfSome o (λ entry. (suc n ≤ entry) × (entry < suc n + length faces)) → IfSome o (λ entry. (n ≤ entry) × (entry < n + length (face ∷ faces)))
    wider None h = tt
    wider (Some entry) h = (omega arith, omega arith)

-- an entry of the site's interfaces
abbrev IsEntry : ℕ → ℕ → Type 0
IsEntry last entry = (nat_le 1 entry && nat_le entry last) ≡ true

is_entry : (last entry : ℕ) → 1 ≤ entry → entry ≤ last → IsEntry last entry
is_entry last entry low high = and_from (nat_le 1 entry) (nat_le entry last) (le-leb 1 entry low) (le-leb entry last high)

entry_within : (site : Site) (name : List ℕ) → IfSome (entry_named Pf site name) (IsEntry (suc (length site.faces)))
entry_within site name =
    cond_both (bytes_eq (name_in Pf site.lo) name) (Some 1) (named_from 2 Pf site.faces name) (λ o. IfSome o (IsEntry (suc (length site.faces))))
    (λ e. is_entry (suc (length site.faces)) 1 (omega arith) (omega arith)) (λ e. within (named_from 2 Pf site.faces name) (named_within 2 site.faces name))
  where
    within : (o : Option ℕ) → IfSome o (λ entry. (2 ≤ entry) × (entry < 2 + length site.faces)) → IfSome o (IsEntry (suc (length site.faces)))
    within None h = tt
    within (Some entry) h = is_entry (suc (length site.faces)) entry (omega arith) (omega arith)

interface_known : (site : Site) (text : List ℕ) → IfOk (interface_part site text) (λ part. entry_part (suc (length site.faces)) part ≡ true)
interface_known site text = read (entry_named Pf site text) (bytes_eq text (codes "lo")) (entry_within site text)
  where
    read : (o : Option ℕ) (lo : Bool) → IfSome o (IsEntry (suc (length site.faces)))
        → IfOk (ok_or (option_map (λ entry. parts.Set (one entry entry)) (option_or o (cond lo (Some 1) None))) NoInterface)
        (λ part. entry_part (suc (length site.faces)) part ≡ true)
    read (Some entry) lo h = h
    read None true h = is_entry (suc (length site.faces)) 1 (omega arith) (omega arith)
    read None false h = tt

pub interfaces_read : (setting : Setting) (w : Word) (v : ValueDraft) → ReadsInterfaces (last_entry setting) v
    → IfOk (value_step setting w v) (λ next. ReadsInterfaces (last_entry setting) next.0)
interfaces_read setting w v h =
    let last = last_entry setting in
    value_reads kinds.Interface any_sign (entry_part last) setting
    (λ x u k. either_holds (Taken kinds.Interface any_sign (entry_part last)) (is_any_mark x) (Err Syntax) (part_taken (interface_part setting.site x.text) u) (λ e. tt)
    (λ e. taken_reads kinds.Interface any_sign (entry_part last) refl (interface_part setting.site x.text) u (interface_known setting.site x.text) k))
    (λ u k. record { kind = k.kind; expects = refl; negated = refl; items = k.items }) w v h
