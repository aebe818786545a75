-- What words ask for.
use Rattle.std.proofs.Common.{◌≡◌, ◌∙◌, ◌<◌, ◌+◌, ℕ, zero, suc, List, [], ◌∷◌, ◌++◌, get_or, length, map, take, take-suc, drop, Bor, refl, sym, ap, subst, arith}
use Rattle.std.specs.Prelude.{codes, decimal, not}
use Rattle.std.specs.Str.{bytes_eq}
use Rattle.std.proofs.lemmas.List.{map-append}
use Rattle.std.proofs.lemmas.List.Elements.{filter-append}
use Rattle.order_model.specs.declared.failing.Failing.{Failing}
use Rattle.order_model.specs.declared.failing.Failing.TheVariants.{Console, ConsoleNot, Exit, Fault, Waits}
use Rattle.order_model.specs.declared.failing.Waiter.{Waiter}
use Rattle.order_model.specs.declared.failing.Waiter.TheVariants.{Any, Process, Thread}
use Rattle.order_text.specs.Texts.{thread_text}
use Rattle.order_words.specs.Values.{AskForAll, AsksFor, NamesWaiter, others_than_differ}

-- ---- lists of words

-- one word more that isn't `differ`, or is it
pub other_more : (words : List (Bor (List ℕ))) (i : ℕ) (d : Bor (List ℕ)) → i < length words
    → others_than_differ (map (λ word. word.now) (take (i + 1) words))
    ≡ others_than_differ (map (λ word. word.now) (take i words)) ++ others_than_differ ((get_or words i d).now ∷ [])
other_more words i d low =
    let next : i + 1 ≡ suc i = omega arith in
    let further : take (i + 1) words ≡ take i words ++ get_or words i d ∷ [] = ap (λ (n : ℕ). take n words) next ∙ take-suc words i d low in
    ap (λ (xs : List (Bor (List ℕ))). others_than_differ (map (λ word. word.now) xs)) further
    ∙ (ap others_than_differ (map-append (λ (word : Bor (List ℕ)). word.now) (take i words) (get_or words i d ∷ []))
    ∙ filter-append (λ word. not (bytes_eq word (codes "differ"))) (map (λ word. word.now) (take i words)) ((get_or words i d).now ∷ []))

-- one word more that asks for something
asks_more : (words : List (List ℕ)) (fails : List Failing) (word : List ℕ) (failing : Failing) → AskForAll words fails → AsksFor word failing
    → AskForAll (words ++ word ∷ []) (fails ++ failing ∷ [])
asks_more [] [] word failing all one = (one, tt)
asks_more [] (f ∷ fails) word failing all one = absurd all
asks_more (w ∷ words) [] word failing all one = absurd all
asks_more (w ∷ words) (f ∷ fails) word failing all one = (all.0, asks_more words fails word failing all.1 one)

pub asks_further : (words : List (Bor (List ℕ))) (fails more : List Failing) (i : ℕ) (d : Bor (List ℕ)) (failing : Failing) → i < length words
    → AskForAll (map (λ word. word.now) (take i words)) fails → AsksFor (get_or words i d).now failing → more ≡ fails ++ failing ∷ []
    → AskForAll (map (λ word. word.now) (take (i + 1) words)) more
asks_further words fails more i d failing low all one is =
    let next : i + 1 ≡ suc i = omega arith in
    let further : take (i + 1) words ≡ take i words ++ get_or words i d ∷ [] = ap (λ (n : ℕ). take n words) next ∙ take-suc words i d low in
    let texts : map (λ (word : Bor (List ℕ)). word.now) (take (i + 1) words)
    ≡ map (λ (word : Bor (List ℕ)). word.now) (take i words) ++ (get_or words i d).now ∷ [] =
    ap (map (λ (word : Bor (List ℕ)). word.now)) further ∙ map-append (λ (word : Bor (List ℕ)). word.now) (take i words) (get_or words i d ∷ []) in
    subst (λ (ws : List (List ℕ)). AskForAll ws more) (sym texts)
    (subst (AskForAll (map (λ (word : Bor (List ℕ)). word.now) (take i words) ++ (get_or words i d).now ∷ [])) (sym is)
    (asks_more (map (λ word. word.now) (take i words)) fails (get_or words i d).now failing all one))

-- each of the words asks for something, where all do
pub asks_at : (words : List (Bor (List ℕ))) (fails : List Failing) (i : ℕ) (d : Bor (List ℕ)) → i < length words
    → AskForAll (map (λ word. word.now) words) fails → (failing : Failing) × AsksFor (get_or words i d).now failing
asks_at [] fails i d low all = absurd (omega arith)
asks_at (w ∷ words) [] i d low all = absurd all
asks_at (w ∷ words) (f ∷ fails) zero d low all = (f, all.0)
asks_at (w ∷ words) (f ∷ fails) (suc i) d low all = asks_at words fails i d (omega arith) all.1

-- ---- one word

byte_at : (k : ℕ) (x y : List ℕ) → x ≡ y → get_or x k 0 ≡ get_or y k 0
byte_at k x y e = ap (λ (w : List ℕ). get_or w k 0) e

-- it names threads behind this front
pub waiter_asked : (word rest : List ℕ) (waiter : Waiter) → word ≡ codes "waits=" ++ rest → NamesWaiter rest waiter → AsksFor word (Waits waiter)
waiter_asked word rest Any front named = absurd named
waiter_asked word rest (Process pid) front named = record {
  spelled = front ∙ ap (λ (r : List ℕ). codes "waits=" ++ r) named.spelled;
  can_be = named.within;
}
waiter_asked word rest (Thread who) front named = record {
  spelled = front
      ∙ (ap (λ (r : List ℕ). codes "waits=" ++ r) named.2
      ∙ (λ i. codes "waits=" ++ (named.3.process.spelled i ++ 46 ∷ named.3.thread.spelled i)));
  can_be = (named.3.process.within, named.3.thread.within);
}

-- it names none behind it
pub no_waiter : (word rest : List ℕ) → word ≡ codes "waits=" ++ rest → ((waiter : Waiter) → NamesWaiter rest waiter → ⊥) → (failing : Failing)
    → AsksFor word failing → ⊥
no_waiter word rest front none Exit asks =
    let h : ◌≡◌ {A = ℕ} 119 101 = byte_at 0 (codes "waits=" ++ rest) (codes "exit") (sym front ∙ asks.spelled) in omega arith
no_waiter word rest front none Fault asks =
    let h : ◌≡◌ {A = ℕ} 119 102 = byte_at 0 (codes "waits=" ++ rest) (codes "fault") (sym front ∙ asks.spelled) in omega arith
no_waiter word rest front none (Waits Any) asks =
    let h : ◌≡◌ {A = ℕ} 61 0 = byte_at 5 (codes "waits=" ++ rest) (codes "waits") (sym front ∙ asks.spelled) in omega arith
no_waiter word rest front none (Waits (Process pid)) asks =
    let same : rest ≡ decimal pid.0 = ap (λ (w : List ℕ). drop 6 w) (sym front ∙ asks.spelled) in
    none (Process pid) (record { within = asks.can_be; spelled = same })
no_waiter word rest front none (Waits (Thread who)) asks =
    let same : rest ≡ thread_text who = ap (λ (w : List ℕ). drop 6 w) (sym front ∙ asks.spelled) in
    none (Thread who) (
      decimal who.pid.0,
      decimal who.tid.0,
      same,
      record {
        process = record { within = asks.can_be.0; spelled = refl };
        thread = record { within = asks.can_be.1; spelled = refl };
      },
    )
no_waiter word rest front none (Console text) asks =
    let h : ◌≡◌ {A = ℕ} 119 99 = byte_at 0 (codes "waits=" ++ rest) (codes "console=" ++ text.now) (sym front ∙ asks.spelled) in omega arith
no_waiter word rest front none (ConsoleNot text) asks =
    let h : ◌≡◌ {A = ℕ} 119 99 = byte_at 0 (codes "waits=" ++ rest) (codes "console-not=" ++ text.now) (sym front ∙ asks.spelled) in omega arith
