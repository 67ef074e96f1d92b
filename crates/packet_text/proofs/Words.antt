-- Words of an entry and of a history, one behind the other.
use Rattle.std.proofs.Common.{◌≡◌, ℕ, ◌+◌, ◌/◌, ◌%◌, ◌<◌, List, [], ◌∷◌, ◌++◌, map, drop, length, get_or, refl, sym, ◌∙◌, ap, append_assoc, append-nil, add-one, drop-cons, arith, codes, decimal}
use Rattle.std.specs.Int.{w32, to_be_bytes}
use Rattle.std.specs.List.{flat_map}
use Rattle.protocol_model.specs.declared.Why.{Why}
use Rattle.script_model.specs.Lines.{Text}
use Rattle.script_model.specs.Reports.{words, hex_digit, hex_of, why_word}
use Rattle.program_model.specs.Checked.{line}
use Rattle.program_model.specs.Shown.{word_if, part_words, number_words, rec_words, word_text, NotHex, NoPacket, fault_text, line_refused_text}
use Rattle.protocol_model.specs.Packet.{Bunch, Sends}
use Rattle.event_text.specs.Words.{after_words}
use Rattle.event_text.proofs.AfterWords.{words-after}

-- words after a text, and then more of them
after-append : (ws vs : List Text) → after_words (ws ++ vs) ≡ after_words ws ++ after_words vs
after-append [] vs = refl
after-append (w ∷ ws) vs =
    ap (λ rest. 32 ∷ (w ++ rest)) (after-append ws vs)
    ∙ ap (λ rest. 32 ∷ rest) (sym (append_assoc w (after_words ws) (after_words vs)))

-- one step more
then : (before now last : Text) (ws vs : List Text) → now ≡ before ++ after_words ws
    → last ≡ now ++ after_words vs → last ≡ before ++ after_words (ws ++ vs)
then before now last ws vs e f =
    f ∙ ap (λ t. t ++ after_words vs) e ∙ append_assoc before (after_words ws) (after_words vs)
    ∙ ap (λ t. before ++ t) (sym (after-append ws vs))

-- the words of a bunch behind its channel
abbrev flags_of : Bunch → List Text
flags_of b =
    word_if b.opens (codes "open") ++ word_if b.closes (codes "close") ++ word_if b.sleeps (codes "dormant")
    ++ word_if b.reliable (codes "reliable") ++ word_if b.exports (codes "exports") ++ part_words b.part
    ++ number_words b.reliable b ++ (codes "bits" ∷ decimal (length b.payload) ∷ [])

-- the words of a bunch, written one kind after another
pub bunch_is : (b : Bunch) (opens closes sleeps reliable exports part number last : Text)
    → opens ≡ (codes "bunch " ++ decimal b.channel) ++ after_words (word_if b.opens (codes "open"))
    → closes ≡ opens ++ after_words (word_if b.closes (codes "close"))
    → sleeps ≡ closes ++ after_words (word_if b.sleeps (codes "dormant"))
    → reliable ≡ sleeps ++ after_words (word_if b.reliable (codes "reliable"))
    → exports ≡ reliable ++ after_words (word_if b.exports (codes "exports"))
    → part ≡ exports ++ after_words (part_words b.part)
    → number ≡ part ++ after_words (number_words b.reliable b)
    → last ≡ number ++ (codes " bits " ++ decimal (length b.payload))
    → last ≡ words (rec_words (Sends b))
bunch_is b opens closes sleeps reliable exports part number last e1 e2 e3 e4 e5 e6 e7 e8 =
    let bits : List Text = codes "bits" ∷ decimal (length b.payload) ∷ [] in
    let start : Text = codes "bunch " ++ decimal b.channel in
    let f8 : last ≡ number ++ after_words bits =
    e8 ∙ ap (λ t. number ++ (codes " bits " ++ t)) (sym (append-nil (decimal (length b.payload)))) in
    let f2 = then start opens closes _ _ e1 e2 in
    let f3 = then start closes sleeps _ _ f2 e3 in
    let f4 = then start sleeps reliable _ _ f3 e4 in
    let f5 = then start reliable exports _ _ f4 e5 in
    let f6 = then start exports part _ _ f5 e6 in
    let f7 = then start part number _ _ f6 e7 in
    let all = then start number last _ _ f7 f8 in
    all ∙ append_assoc (codes "bunch ") (decimal b.channel) (after_words (flags_of b))
    ∙ sym (words-after (codes "bunch") (decimal b.channel ∷ flags_of b))

-- ---- histories

-- two digits of each byte are eight digits of the word
pub word-is : (w : ℕ) → hex_of (to_be_bytes w32 w) ≡ word_text w
word-is w =
    let a : w / 16777216 % 256 / 16 ≡ w / 268435456 % 16 = omega arith in
    let b : w / 16777216 % 256 % 16 ≡ w / 16777216 % 16 = omega arith in
    let c : w / 65536 % 256 / 16 ≡ w / 1048576 % 16 = omega arith in
    let d : w / 65536 % 256 % 16 ≡ w / 65536 % 16 = omega arith in
    let e : w / 256 % 256 / 16 ≡ w / 4096 % 16 = omega arith in
    let f : w / 256 % 256 % 16 ≡ w / 256 % 16 = omega arith in
    let g : w % 256 / 16 ≡ w / 16 % 16 = omega arith in
    let h : w % 256 % 16 ≡ w / 1 % 16 = omega arith in
    eight a b c d e f g h
  where
    eight : {a b c d e f g h i j k l m n o p : ℕ} → a ≡ i → b ≡ j → c ≡ k → d ≡ l → e ≡ m → f ≡ n → g ≡ o → h ≡ p
        → hex_digit a ∷ hex_digit b ∷ hex_digit c ∷ hex_digit d ∷ hex_digit e ∷ hex_digit f ∷ hex_digit g ∷ hex_digit h ∷ []
        ≡ hex_digit i ∷ hex_digit j ∷ hex_digit k ∷ hex_digit l ∷ hex_digit m ∷ hex_digit n ∷ hex_digit o ∷ hex_digit p ∷ []
    eight p1 p2 p3 p4 p5 p6 p7 p8 = rw (p1, p2, p3, p4, p5, p6, p7, p8) refl

-- one word more
pub word_more : (text now : Text) (w : ℕ) (digits : Text) → now ≡ text ++ 32 ∷ digits → digits ≡ hex_of (to_be_bytes w32 w)
    → now ≡ text ++ 32 ∷ word_text w
word_more text now w digits told is = told ∙ ap (λ t. text ++ 32 ∷ t) (is ∙ word-is w)

-- a history's line
pub head_is : (text now : Text) (top : ℕ) (history : Text) (history_words : List Text)
    → now ≡ text ++ (codes "head " ++ (decimal top ++ (history ++ 10 ∷ []))) → history ≡ after_words history_words
    → now ≡ text ++ line (codes "head" ∷ decimal top ∷ history_words)
head_is text now top history ws told is =
    told ∙ ap (λ t. text ++ (codes "head " ++ (decimal top ++ (t ++ 10 ∷ [])))) is
    ∙ ap (λ t. text ++ (codes "head " ++ t)) (sym (append_assoc (decimal top) (after_words ws) (10 ∷ [])))
    ∙ ap (λ t. text ++ (t ++ 10 ∷ [])) (sym (words-after (codes "head") (decimal top ∷ ws)))

-- ---- entries

-- the line of one entry more
pub entry_more : {X Y : Type 0} (f : Y → Text) (g : X → Y) (whole text next : Text) (xs : List X) (i : ℕ) (x : X)
    → i < length xs → x ≡ get_or xs i x → next ≡ text ++ f (g x)
    → text ++ flat_map f (map g (drop i xs)) ≡ whole → next ++ flat_map f (map g (drop (i + 1) xs)) ≡ whole
entry_more f g whole text next xs i x h item e before =
    let split : drop i xs ≡ get_or xs i x ∷ drop (i + 1) xs = rw (add-one, drop-cons xs i x) refl in
    let here : drop i xs ≡ x ∷ drop (i + 1) xs = split ∙ ap (λ y. y ∷ drop (i + 1) xs) (sym item) in
    ap (λ t. t ++ flat_map f (map g (drop (i + 1) xs))) e
    ∙ append_assoc text (f (g x)) (flat_map f (map g (drop (i + 1) xs)))
    ∙ ap (λ ys. text ++ flat_map f (map g ys)) (sym here) ∙ before

-- ---- refusals

pub not_hex_is : (text : Text) (n : ℕ) → text ≡ codes "unet: line " ++ (decimal n ++ codes ": not hex\n")
    → text ≡ line_refused_text (n, NotHex)
not_hex_is text n told =
    told ∙ sym (append_assoc (codes "unet: line ") (decimal n) (codes ": not hex\n"))
    ∙ by_start (codes "unet: line " ++ decimal n)
  where
    by_start : (start : Text) → start ++ codes ": not hex\n" ≡ start ++ codes ": " ++ fault_text NotHex ++ 10 ∷ []
    by_start start =
        sym (append_assoc (start ++ codes ": ") (codes "not hex") (10 ∷ []) ∙ append_assoc start (codes ": ") (codes "not hex\n"))

pub no_packet_is : (text : Text) (n at : ℕ) (why : Why)
    → text ≡ codes "unet: line " ++ (decimal n ++ (codes ": bit " ++ (decimal at ++ 32 ∷ (why_word why ++ 10 ∷ []))))
    → text ≡ line_refused_text (n, NoPacket at why)
no_packet_is text n at why told =
    told ∙ sym (append_assoc (codes "unet: line ") (decimal n) _) ∙ sym (by_start (codes "unet: line " ++ decimal n))
  where
    rest : Text
    rest = 32 ∷ why_word why

    fault : Text
    fault = fault_text (NoPacket at why)

    ends : fault ++ 10 ∷ [] ≡ codes "bit " ++ (decimal at ++ 32 ∷ (why_word why ++ 10 ∷ []))
    ends =
        append_assoc (codes "bit " ++ decimal at) rest (10 ∷ []) ∙ append_assoc (codes "bit ") (decimal at) (rest ++ 10 ∷ [])

    by_start : (start : Text) → start ++ codes ": " ++ fault ++ 10 ∷ []
        ≡ start ++ (codes ": bit " ++ (decimal at ++ 32 ∷ (why_word why ++ 10 ∷ [])))
    by_start start =
        append_assoc (start ++ codes ": ") fault (10 ∷ []) ∙ append_assoc start (codes ": ") (fault ++ 10 ∷ [])
        ∙ ap (λ t. start ++ (codes ": " ++ t)) ends
