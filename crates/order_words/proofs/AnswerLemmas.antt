-- How the whole is read, by how a part is.
use Rattle.std.proofs.Common.{◌≡◌, Result, Ok, Err, IsErrAnd, sym}
use Rattle.order_words.specs.Answers.{Answers, IsNoCase}
use Rattle.order_words.specs.declared.arguments.Unread.{Unread}
use Rattle.order_words.specs.declared.arguments.Unread.TheVariants.{NoMemory, Usage}

-- where it isn't read
pub exit_answers : {A B : Type 0} (P : A → Type 0) (Q : B → Type 0) (r : Result A Unread) (e : Unread) → IsErrAnd r (λ x. x ≡ e)
    → (e ≡ Usage → IsNoCase Q) → Answers P Q r
exit_answers P Q (Ok x) e same none = absurd same
exit_answers P Q (Err Usage) e same none = none (sym same)
exit_answers P Q (Err NoMemory) e same none = tt

none_of : {C D : Type 0} (R : C → Type 0) (S : D → Type 0) (e : Unread) → Answers R S (Err e) → e ≡ Usage → IsNoCase S
none_of R S Usage part is = part
none_of R S NoMemory part is = absurd (let h : NoMemory ≡ Usage = is in cc)

-- where a part isn't
pub part_answers : {A B C D : Type 0} (P : A → Type 0) (Q : B → Type 0) (R : C → Type 0) (S : D → Type 0) (r : Result A Unread) (e : Unread)
    → IsErrAnd r (λ x. x ≡ e) → Answers R S (Err e) → ((y : B) → Q y → (z : D) × S z) → Answers P Q r
part_answers P Q R S r e same part f = exit_answers P Q r e same (λ is y q. none_of R S e part is (f y q).0 (f y q).1)
