-- What a word does to a value doesn't depend on the values ahead.
use Rattle.std.proofs.Common.{◌≡◌, ℕ, Bool, true, false, ◌&&◌, not, cond, Option, None, Some, option_map, Result, Ok, Err, List, [], ◌∷◌, codes, refl, sym, ap, ◌∙◌, append_assoc}
use Rattle.std.proofs.lemmas.List.{append-nil}
use Rattle.std.specs.Option.{option_map_or, ok_or}
use Rattle.std.specs.Str.{bytes_eq}
use Rattle.fws_iv.specs.declared.iv.Iv.{Iv}
use Rattle.fws_num.specs.declared.word.Word.{Word}
use Rattle.fws_num.specs.Numbers.{quad_of}
use Rattle.fws_num.specs.Words.{is_sound}
use Rattle.fws_num.specs.Services.{port_of}
use Rattle.fws_net.specs.declared.cause.Cause.{Cause}
use Rattle.fws_net.specs.declared.cause.Cause.TheVariants.{Syntax}
use Rattle.fws_net.specs.declared.site.Site.{Site}
use Rattle.fws_net.specs.declared.answer.LineFault.{LineFault}
use Rattle.fws_net.specs.declared.answer.LineFault.TheVariants as faults
use Rattle.fws_net.specs.Reading.{FaultGiven, and_then}
use Rattle.fws_rules.specs.Literals.{one}
use Rattle.fws_pf.specs.declared.value_draft.Item.{Item}
use Rattle.fws_pf.specs.declared.value_draft.Part.{Part}
use Rattle.fws_pf.specs.declared.value_draft.Part.TheVariants as parts
use Rattle.fws_pf.specs.declared.value_draft.ValueDraft.{ValueDraft}
use Rattle.fws_pf.specs.declared.value_draft.ValueExpects.{ValueExpects}
use Rattle.fws_pf.specs.declared.value_draft.ValueExpects.TheVariants as expect
use Rattle.fws_pf.specs.declared.value_draft.ValueKind.{ValueKind}
use Rattle.fws_pf.specs.declared.value_draft.ValueKind.TheVariants as kinds
use Rattle.fws_pf.specs.Statements.{is_mark}
use Rattle.fws_pf.specs.Values.{Setting, after_part, begin_step, compared_ports, end_step, ended_value, face_name_part, face_name_step, first_step, has_ended, host_part, host_step, host_word, icmp_type_part, interface_part, is_any_mark, is_table, item_step, may_be_empty, negating, next_step, operator_of, part_taken, passed, plain_step, port_range_part, port_sign_step, port_step, port_taken, port_word, ports_by_ends, protocol_part, range_part, range_sign_step, table_name_step, taken, value_expected_step, value_expecting, value_step, with_part}
use Rattle.fws_pf_words.specs.Fronts.{emptied, fronted, going_on, with_front, word_within}

abbrev Read : Type 0
Read = Result (ValueDraft × Bool) Cause

-- Parts of steps

part_front : (xs : List Item) (part : Part) (d : ValueDraft) → with_part part (with_front xs d) ≡ with_front xs (with_part part d)
part_front xs part d =
    let whole : List Item → ValueDraft = λ items. record {
      kind = d.kind;
      expects = cond d.in_list expect.Next expect.Nothing;
      in_list = d.in_list;
      negated = false;
      items = items;
    } in
    ap whole (append_assoc xs d.items (record { negated = d.negated; part = part } ∷ []))

either : (xs : List Item) (b : Bool) (p q r s : Read) → p ≡ fronted xs r → q ≡ fronted xs s → cond b p q ≡ fronted xs (cond b r s)
either xs true p q r s e f = e
either xs false p q r s e f = f

found : {X : Type 0} (xs : List Item) (o : Option X) (f g : X → Read) (p q : Read) → ((x : X) → f x ≡ fronted xs (g x)) → p ≡ fronted xs q
    → option_map_or f o p ≡ fronted xs (option_map_or g o q)
found xs (Some x) f g p q h e = h x
found xs None f g p q h e = e

gone_on : {X : Type 0} (xs : List Item) (r : Result X Cause) (f g : X → Read) → ((x : X) → f x ≡ fronted xs (g x)) → and_then r f ≡ fronted xs (and_then r g)
gone_on xs (Ok x) f g h = h x
gone_on xs (Err cause) f g h = refl

taking_front : (xs : List Item) (d : ValueDraft) (part : Part) → taken (with_part part (with_front xs d)) ≡ fronted xs (taken (with_part part d))
taking_front xs d part = ap taken (part_front xs part d)

part_taken_front : (xs : List Item) (d : ValueDraft) (read : Result Part Cause) → part_taken read (with_front xs d) ≡ fronted xs (part_taken read d)
part_taken_front xs d read = gone_on xs read (λ part. taken (with_part part (with_front xs d))) (λ part. taken (with_part part d)) (taking_front xs d)

-- the part, and then what is expected
then_expecting : (xs : List Item) (d : ValueDraft) (next : ValueExpects) (part : Part)
    → taken (value_expecting next (with_part part (with_front xs d))) ≡ fronted xs (taken (value_expecting next (with_part part d)))
then_expecting xs d next part = ap (λ (v : ValueDraft). taken (value_expecting next v)) (part_front xs part d)

-- Values by their kinds

no_mark_front : (xs : List Item) (w : Word) (p r : Read) → p ≡ fronted xs r → cond (is_any_mark w) (Err Syntax) p ≡ fronted xs (cond (is_any_mark w) (Err Syntax) r)
no_mark_front xs w p r e = either xs (is_any_mark w) (Err Syntax) p (Err Syntax) r refl e

host_word_front : (site : Site) (text : List ℕ) (xs : List Item) (d : ValueDraft) → host_word site text (with_front xs d) ≡ fronted xs (host_word site text d)
host_word_front site text xs d =
    found xs (quad_of text) (λ addr. taken (value_expecting (expect.RangeSign addr) (with_front xs d))) (λ addr. taken (value_expecting (expect.RangeSign addr) d))
    (part_taken (host_part site text) (with_front xs d)) (part_taken (host_part site text) d) (λ addr. refl) (part_taken_front xs d (host_part site text))

host_front : (site : Site) (w : Word) (xs : List Item) (d : ValueDraft) → host_step site w (with_front xs d) ≡ fronted xs (host_step site w d)
host_front site w xs d =
    either xs (is_mark w (codes "<")) _ _ _ _ refl
    (either xs (is_mark w (codes "(")) _ _ _ _ refl (no_mark_front xs w _ _ (host_word_front site w.text xs d)))

port_word_front : (text : List ℕ) (xs : List Item) (d : ValueDraft) → port_word text (with_front xs d) ≡ fronted xs (port_word text d)
port_word_front text xs d =
    found xs (port_of text) (λ n. taken (value_expecting (expect.PortSign n) (with_front xs d))) (λ n. taken (value_expecting (expect.PortSign n) d))
    (part_taken (port_range_part text) (with_front xs d)) (part_taken (port_range_part text) d) (λ n. refl) (part_taken_front xs d (port_range_part text))

port_front : (w : Word) (xs : List Item) (d : ValueDraft) → port_step w (with_front xs d) ≡ fronted xs (port_step w d)
port_front w xs d =
    found xs (operator_of w) (λ operator. taken (value_expecting (expect.Operand operator) (with_front xs d))) (λ operator. taken (value_expecting (expect.Operand operator) d))
    _ _ (λ operator. refl) (no_mark_front xs w _ _ (port_word_front w.text xs d))

plain_front : (setting : Setting) (w : Word) (xs : List Item) (d : ValueDraft) (kind : ValueKind) → plain_step setting w (with_front xs d) kind ≡ fronted xs (plain_step setting w d kind)
plain_front setting w xs d kinds.Interface = no_mark_front xs w _ _ (part_taken_front xs d (interface_part setting.site w.text))
plain_front setting w xs d kinds.Protocol = no_mark_front xs w _ _ (part_taken_front xs d (protocol_part w.text))
plain_front setting w xs d kinds.Host = host_front setting.site w xs d
plain_front setting w xs d kinds.Member = host_front setting.site w xs d
plain_front setting w xs d kinds.Port = port_front w xs d
plain_front setting w xs d kinds.IcmpType = no_mark_front xs w _ _ (part_taken_front xs d (icmp_type_part w.text))

negating_front : (xs : List Item) (d : ValueDraft) (kind : ValueKind) → negating kind (with_front xs d) ≡ fronted xs (negating kind d)
negating_front xs d kinds.Interface = refl
negating_front xs d kinds.Protocol = refl
negating_front xs d kinds.Host = refl
negating_front xs d kinds.Member = refl
negating_front xs d kinds.Port = refl
negating_front xs d kinds.IcmpType = refl

item_front : (setting : Setting) (w : Word) (xs : List Item) (d : ValueDraft) → item_step setting w (with_front xs d) ≡ fronted xs (item_step setting w d)
item_front setting w xs d = either xs (is_mark w (codes "!")) _ _ _ _ (negating_front xs d d.kind) (plain_front setting w xs d d.kind)

begin_front : (setting : Setting) (w : Word) (xs : List Item) (d : ValueDraft) → begin_step setting w (with_front xs d) ≡ fronted xs (begin_step setting w d)
begin_front setting w xs d = either xs (is_mark w (codes "{")) _ _ _ _ refl (item_front setting w xs d)

first_front : (setting : Setting) (w : Word) (xs : List Item) (d : ValueDraft) → first_step setting w (with_front xs d) ≡ fronted xs (first_step setting w d)
first_front setting w xs d = either xs (is_mark w (codes "}") && may_be_empty d.kind) _ _ _ _ refl (item_front setting w xs d)

next_front : (setting : Setting) (w : Word) (xs : List Item) (d : ValueDraft) → next_step setting w (with_front xs d) ≡ fronted xs (next_step setting w d)
next_front setting w xs d =
    either xs (is_mark w (codes ",")) _ _ _ _ refl (either xs (is_mark w (codes "}")) _ _ _ _ refl (item_front setting w xs d))

after_front : (setting : Setting) (part : Part) (w : Word) (xs : List Item) (d : ValueDraft) → after_part setting part w (with_front xs d) ≡ fronted xs (after_part setting part w d)
after_front setting part w xs d =
    ap (λ (v : ValueDraft). cond d.in_list (next_step setting w v) (passed v)) (part_front xs part d)
    ∙ either xs d.in_list _ _ _ _ (next_front setting w xs (with_part part d)) refl

table_name_front : (setting : Setting) (w : Word) (xs : List Item) (d : ValueDraft) → table_name_step setting w (with_front xs d) ≡ fronted xs (table_name_step setting w d)
table_name_front setting w xs d =
    no_mark_front xs w _ _ (either xs (is_table setting w.text) _ _ _ _ (then_expecting xs d expect.TableEnd (parts.Table w.text)) refl)

face_name_front : (setting : Setting) (w : Word) (xs : List Item) (d : ValueDraft) → face_name_step setting w (with_front xs d) ≡ fronted xs (face_name_step setting w d)
face_name_front setting w xs d =
    no_mark_front xs w _ _ (gone_on xs (face_name_part setting.site w.text) _ _ (then_expecting xs d expect.FaceEnd))

end_front : (mark : List ℕ) (w : Word) (xs : List Item) (d : ValueDraft) → end_step mark w (with_front xs d) ≡ fronted xs (end_step mark w d)
end_front mark w xs d = either xs (is_mark w mark) _ _ _ _ refl refl

range_sign_front : (setting : Setting) (addr : ℕ) (w : Word) (xs : List Item) (d : ValueDraft)
    → range_sign_step setting addr w (with_front xs d) ≡ fronted xs (range_sign_step setting addr w d)
range_sign_front setting addr w xs d =
    either xs (bytes_eq w.text (codes "-")) _ _ _ _ refl (after_front setting (parts.Set (one addr addr)) w xs d)

port_sign_front : (setting : Setting) (n : ℕ) (w : Word) (xs : List Item) (d : ValueDraft)
    → port_sign_step setting n w (with_front xs d) ≡ fronted xs (port_sign_step setting n w d)
port_sign_front setting n w xs d =
    either xs (is_mark w (codes "><")) _ _ _ _ refl
    (either xs (is_mark w (codes "<>")) _ _ _ _ refl (after_front setting (parts.Set (one n n)) w xs d))

port_taken_front : (ports : ℕ → List Iv) (w : Word) (xs : List Item) (d : ValueDraft) → port_taken ports w (with_front xs d) ≡ fronted xs (port_taken ports w d)
port_taken_front ports w xs d = part_taken_front xs d (ok_or (option_map (λ n. parts.Set (ports n)) (port_of w.text)) Syntax)

expected_front : (setting : Setting) (e : ValueExpects) (w : Word) (xs : List Item) (d : ValueDraft)
    → value_expected_step setting e w (with_front xs d) ≡ fronted xs (value_expected_step setting e w d)
expected_front setting expect.Value w xs d = begin_front setting w xs d
expected_front setting expect.First w xs d = first_front setting w xs d
expected_front setting expect.Item w xs d = item_front setting w xs d
expected_front setting expect.Next w xs d = next_front setting w xs d
expected_front setting expect.Negated w xs d = plain_front setting w xs d d.kind
expected_front setting expect.TableName w xs d = table_name_front setting w xs d
expected_front setting expect.TableEnd w xs d = end_front (codes ">") w xs d
expected_front setting expect.FaceName w xs d = face_name_front setting w xs d
expected_front setting expect.FaceEnd w xs d = end_front (codes ")") w xs d
expected_front setting (expect.RangeSign addr) w xs d = range_sign_front setting addr w xs d
expected_front setting (expect.RangeEnd addr) w xs d = part_taken_front xs d (range_part addr w.text)
expected_front setting (expect.Operand operator) w xs d = port_taken_front (compared_ports operator) w xs d
expected_front setting (expect.PortSign n) w xs d = port_sign_front setting n w xs d
expected_front setting (expect.PortEnd outside n) w xs d = port_taken_front (ports_by_ends outside n) w xs d
expected_front setting expect.Nothing w xs d = refl

-- a word does the same to a value, whatever stands ahead
pub value_front : (setting : Setting) (w : Word) (xs : List Item) (d : ValueDraft) → value_step setting w (with_front xs d) ≡ fronted xs (value_step setting w d)
value_front setting w xs d = expected_front setting d.expects w xs d

-- A value that stands behind its values

restored : (d : ValueDraft) → with_front d.items (emptied d) ≡ d
restored d = ap (λ (l : List Item). record d { items = l }) (append-nil d.items)

stepped_front : (setting : Setting) (w : Word) (old start : ValueDraft) → start ≡ emptied old → value_step setting w old ≡ fronted old.items (value_step setting w start)
stepped_front setting w old start s =
    ap (value_step setting w) (sym (restored old)) ∙ value_front setting w old.items (emptied old) ∙ ap (λ (d : ValueDraft). fronted old.items (value_step setting w d)) (sym s)

pub stepped : (setting : Setting) (w : Word) (old start next new : ValueDraft) (b : Bool) → start ≡ emptied old → value_step setting w start ≡ Ok (next, b)
    → new ≡ with_front old.items next → value_step setting w old ≡ Ok (new, b)
stepped setting w old start next new b s h n =
    stepped_front setting w old start s ∙ ap (fronted old.items) h ∙ ap (λ (d : ValueDraft). Ok (d, b)) (sym n)

pub step_refused : (setting : Setting) (w : Word) (old start next : ValueDraft) (fault : LineFault Cause) → start ≡ emptied old
    → FaultGiven fault (value_step setting w start) → FaultGiven fault (value_step setting w old)
step_refused setting w old start next (faults.Bad cause) s h = stepped_front setting w old start s ∙ ap (fronted old.items) h
step_refused setting w old start next faults.Memory s h = tt

-- a word that stays within
pub word_stays : (setting : Setting) (w : Word) (old start next new : ValueDraft) (took ended : Bool) → is_sound w ≡ true → start ≡ emptied old
    → value_step setting w start ≡ Ok (next, took) → took ≡ true → ended ≡ has_ended next.expects → ended ≡ false → new ≡ with_front old.items next
    → word_within setting w old ≡ Some new
word_stays setting w old start next new took ended sound s h t e f n =
    let step : value_step setting w old ≡ Ok (new, took) = stepped setting w old start next new took s h n in
    let going : has_ended new.expects ≡ false = ap (λ (d : ValueDraft). has_ended d.expects) n ∙ sym e ∙ f in
    ap (λ b. cond b (going_on (value_step setting w old)) None) sound ∙ ap going_on step ∙ ap (λ b. cond (b && not (has_ended new.expects)) (Some new) None) t
    ∙ ap (λ b. cond (not b) (Some new) None) going

-- where a statement ends
ended_front : (e : ValueExpects) (xs : List Item) (d : ValueDraft) → ended_value e (with_front xs d) ≡ option_map (with_front xs) (ended_value e d)
ended_front expect.Value xs d = refl
ended_front expect.First xs d = refl
ended_front expect.Item xs d = refl
ended_front expect.Next xs d = refl
ended_front expect.Negated xs d = refl
ended_front expect.TableName xs d = refl
ended_front expect.TableEnd xs d = refl
ended_front expect.FaceName xs d = refl
ended_front expect.FaceEnd xs d = refl
ended_front (expect.RangeSign addr) xs d = alone_front d.in_list (parts.Set (one addr addr)) xs d
  where
    alone_front : (b : Bool) (part : Part) (xs : List Item) (d : ValueDraft) → cond b None (Some (with_part part (with_front xs d))) ≡ option_map (with_front xs) (cond b None (Some (with_part part d)))
    alone_front true part xs d = refl
    alone_front false part xs d = ap (λ (v : ValueDraft). Some v) (part_front xs part d)
ended_front (expect.RangeEnd addr) xs d = refl
ended_front (expect.Operand operator) xs d = refl
ended_front (expect.PortSign n) xs d = alone_front d.in_list (parts.Set (one n n)) xs d
  where
    alone_front : (b : Bool) (part : Part) (xs : List Item) (d : ValueDraft) → cond b None (Some (with_part part (with_front xs d))) ≡ option_map (with_front xs) (cond b None (Some (with_part part d)))
    alone_front true part xs d = refl
    alone_front false part xs d = ap (λ (v : ValueDraft). Some v) (part_front xs part d)
ended_front (expect.PortEnd outside n) xs d = refl
ended_front expect.Nothing xs d = refl

pub ended_behind : (old start : ValueDraft) (o : Option ValueDraft) → start ≡ emptied old → o ≡ ended_value start.expects start → ended_value old.expects old ≡ option_map (with_front old.items) o
ended_behind old start o s h =
    ap (λ (d : ValueDraft). ended_value old.expects d) (sym (restored old)) ∙ ended_front old.expects old.items (emptied old)
    ∙ ap (λ (d : ValueDraft). option_map (with_front old.items) (ended_value d.expects d)) (sym s) ∙ ap (option_map (with_front old.items)) (sym h)

pub ended_whole : (old start last new : ValueDraft) (o : Option ValueDraft) → start ≡ emptied old → o ≡ ended_value start.expects start → o ≡ Some last → new ≡ with_front old.items last
    → Some new ≡ ended_value old.expects old
ended_whole old start last new o s h l n =
    sym (ended_behind old start o s h ∙ ap (option_map (with_front old.items)) l ∙ ap (λ (d : ValueDraft). Some d) (sym n))
