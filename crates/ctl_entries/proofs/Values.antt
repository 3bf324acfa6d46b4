-- What a value that was read says of the text that the entries have for it.
use Rattle.std.proofs.Common.{◌≡◌, ◌∙◌, ◌↔◌, ℕ, Bool, false, List, Option, Some, None, Result, Ok, Err, Bor, IsTrue, MatchOption, ap, sym, subst, refl, option_map, bytes_eq}
use Rattle.std.specs.Prelude.{unwrap_or}
use Rattle.std.specs.Result.{result_unwrap_or}
use Rattle.std.specs.Str.Parse.{ParsesUnsigned}
use Rattle.std.proofs.lemmas.Slice.Eq.{bytes_eq-Decides}
use Rattle.ctl_entries.specs.Entries.{IsSpelled}

-- the text behind a value
abbrev pub text_of : Option (Bor (List ℕ)) → Option (List ℕ)
text_of value = option_map (λ text. text.now) value

-- where there is a value, its text is the entry
pub text_some : (value : Option (Bor (List ℕ))) (entry : Option (List ℕ)) (text : Bor (List ℕ)) → text_of value ≡ entry → value ≡ Some text → entry ≡ Some text.now
text_some value entry text read is = sym read ∙ ap text_of is

-- where there is none, there is no entry
pub text_none : (value : Option (Bor (List ℕ))) (entry : Option (List ℕ)) → text_of value ≡ entry → value ≡ None → entry ≡ None
text_none value entry read is = sym read ∙ ap text_of is

-- a test of the value is one of the entry
pub test_some : (entry : Option (List ℕ)) (text wanted : List ℕ) (test : Bool) → entry ≡ Some text → test ≡ bytes_eq text wanted
    → IsTrue test ↔ (entry ≡ Some wanted)
test_some entry text wanted test has is = (
  λ yes. has ∙ ap (λ w. Some w) ((bytes_eq-Decides text wanted).0 (sym is ∙ yes)),
  λ named. is ∙ (bytes_eq-Decides text wanted).1 (ap (λ o. unwrap_or o wanted) (sym has ∙ named)),
)

-- an entry that is not there has no value
pub test_none : (entry : Option (List ℕ)) (wanted : List ℕ) → entry ≡ None → IsTrue false ↔ (entry ≡ Some wanted)
test_none entry wanted has = (
  λ yes. cc,
  λ named. let both : None ≡ Some wanted = sym has ∙ named in cc,
)

-- the text behind a value, or behind what stands for none
pub unwrap_or-text : (value : Option (Bor (List ℕ))) (other given : Bor (List ℕ)) (entry : Option (List ℕ)) → text_of value ≡ entry
    → given ≡ unwrap_or value other → given.now ≡ unwrap_or entry other.now
unwrap_or-text value other given entry read is = ap (λ text. text.now) is ∙ (go value ∙ ap (λ o. unwrap_or o other.now) read)
  where
    go : (v : Option (Bor (List ℕ))) → (unwrap_or v other).now ≡ unwrap_or (text_of v) other.now
    go None = refl
    go (Some text) = refl

-- the number that a text is read as is the one that it spells
pub parsed_spelled : {E : Type 0} (text : List ℕ) (parsed : Result ℕ E) (other : ℕ) → ParsesUnsigned 64 10 text parsed
    → IsSpelled text (result_unwrap_or parsed other)
parsed_spelled text (Ok n) other reads = λ numeral fits. reads.1
parsed_spelled text (Err e) other reads = λ numeral fits. absurd (reads (numeral, fits))

-- a limit that is read from the entry for it
pub limit_some : (entry : Option (List ℕ)) (text : List ℕ) (limit other : ℕ) → entry ≡ Some text → IsSpelled text limit
    → MatchOption entry (limit ≡ other) (λ t. IsSpelled t limit)
limit_some entry text limit other has spelled = subst (λ o. MatchOption o (limit ≡ other) (λ t. IsSpelled t limit)) (sym has) spelled

-- and one where there is no entry
pub limit_none : (entry : Option (List ℕ)) (limit other : ℕ) → entry ≡ None → limit ≡ other
    → MatchOption entry (limit ≡ other) (λ t. IsSpelled t limit)
limit_none entry limit other has is = subst (λ o. MatchOption o (limit ≡ other) (λ t. IsSpelled t limit)) (sym has) is
