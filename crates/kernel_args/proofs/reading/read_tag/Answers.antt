use Rattle.std.proofs.Common.{◌≡◌, ℕ, List, true, false, eqb, arith, ap, ◌∙◌, sym, subst, length}
use Rattle.std.specs.Prelude.{codes}
use Rattle.std.specs.Cmp.Lexicographic.{pointwise}
use Rattle.kernel_args.specs.Tags.{has_name}
use Rattle.kernel_args.specs.Image.{IsRightTag}
use Rattle.kernel_args.specs.Reading.{tag_of, GivesProcess, GivesNames}
use Rattle.kernel_args.proofs.RowFaultLemmas.{adds_process, adds_names, none_found, adds_slots, adds_nothing}
use Rattle.kernel_args.proofs.reading.read_tag.Goals as goal

pub returns-in_ok-push-in-Some-clause-ok : goal.returns-in_ok-push-in-Some-clause-ok
returns-in_ok-push-in-Some-clause-ok c =
    let t = c.args.tag.now in
    let right : IsRightTag (tag_of t) = record { tag = c.requires.tag; right = sym c.if-crc_x25-tag.false ∙ c.crc_x25.ensures } in
    let named : has_name (codes "IniE") (tag_of t) ≡ true = sym (c.if-eq.ensures ∙ ap (λ (l : List ℕ). pointwise eqb t.name.now l) c.as_slice.ensures) in
    let s = subst (GivesProcess c.args.version t.contents.now) c.in-Some.is c.in_ok-process_of.ensures in
    rw c.in_ok-push-in-Some.ensures.ok
    (adds_process c.args.version (tag_of t) c.args.found.now c.in-Some.process right named (omega (arith, ap length c.as_slice-then-eq.ensures, c.process_limit.ensures)) s)

pub returns-else-not-branch-clause-ok : goal.returns-else-not-branch-clause-ok
returns-else-not-branch-clause-ok c =
    let t = c.args.tag.now in
    let right : IsRightTag (tag_of t) = record { tag = c.requires.tag; right = sym c.if-crc_x25-tag.false ∙ c.crc_x25.ensures } in
    let named : has_name (codes "PNam") (tag_of t) ≡ true = sym (c.if-eq-2.ensures ∙ ap (λ (l : List ℕ). pointwise eqb t.name.now l) c.as_slice-else-eq.ensures) in
    let s = subst (GivesNames t.contents.now c.args.found.now.names c.append_names.new.names) c.if-not-branch.false c.in_ok-append_names.ensures in
    adds_names c.args.version (tag_of t) c.args.found.now c.append_names.new.names right named c.requires.few s

pub returns-in-Some-slots_of-clause-ok : goal.returns-in-Some-slots_of-clause-ok
returns-in-Some-slots_of-clause-ok c =
    let t = c.args.tag.now in
    let right : IsRightTag (tag_of t) = record { tag = c.requires.tag; right = sym c.if-crc_x25-tag.false ∙ c.crc_x25.ensures } in
    adds_slots c.args.version (tag_of t) c.args.found.now c.in-Some-slots_of.slots right (sym c.if-is_slots.ensures) c.requires.few
    (none_found c.args.found.now.slots c.if-is_none.ensures) c.in-Some-slots_of.ensures

pub returns-else-is_slots-clause-ok : goal.returns-else-is_slots-clause-ok
returns-else-is_slots-clause-ok c =
    let t = c.args.tag.now in
    let right : IsRightTag (tag_of t) = record { tag = c.requires.tag; right = sym c.if-crc_x25-tag.false ∙ c.crc_x25.ensures } in
    let unnamed : has_name (codes "IniE") (tag_of t) ≡ false = sym (c.if-eq.ensures ∙ ap (λ (l : List ℕ). pointwise eqb t.name.now l) c.as_slice.ensures) in
    let nameless : has_name (codes "PNam") (tag_of t) ≡ false = sym (c.if-eq-2.ensures ∙ ap (λ (l : List ℕ). pointwise eqb t.name.now l) c.as_slice-else-eq.ensures) in
    adds_nothing c.args.version (tag_of t) c.args.found.now right unnamed nameless (sym c.if-is_slots.ensures) c.requires.few
