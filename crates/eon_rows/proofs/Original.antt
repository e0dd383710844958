-- Answers of the original as rows, printed by `oracle rows 240 1`: cases of all kinds by their shares, of at most 80 bytes.
use Rattle.std.proofs.Common.{◌≡◌, true, false, [], ◌∷◌, refl}
use Rattle.eon_rows.proofs.Computing.{reads, writes_by, settings, shows, tokens_of, ident, compares, bytes}

row0 : tokens_of (9 ∷ 12 ∷ []) ≡ 0 ∷ []
unfolding tokens_of bytes
row0 = refl

row1 : reads (39 ∷ 39 ∷ 39 ∷ 32 ∷ 44 ∷ 47 ∷ 39 ∷ 39 ∷ 39 ∷ 40 ∷ 84 ∷ 114 ∷ 117 ∷ 101 ∷ 32 ∷ 116 ∷ 114 ∷ 117 ∷ 101 ∷ 32 ∷ 120 ∷ 49 ∷ 47 ∷ 192 ∷ 49 ∷ 41 ∷ []) ≡ 2 ∷ 23 ∷ 23 ∷ 0 ∷ 0 ∷ []
unfolding reads bytes
row1 = refl

row2 : reads (bytes "1''\n") ≡ 0 ∷ 4 ∷ 0 ∷ 4 ∷ 4 ∷ 3 ∷ 2 ∷ 0 ∷ 1 ∷ 1 ∷ 1 ∷ 3 ∷ 1 ∷ 3 ∷ 3 ∷ 1 ∷ []
unfolding reads bytes
row2 = refl

row3 : reads (239 ∷ 187 ∷ 191 ∷ 12 ∷ 123 ∷ 110 ∷ 117 ∷ 108 ∷ 108 ∷ 97 ∷ 0 ∷ 50 ∷ 10 ∷ 35 ∷ []) ≡ 3 ∷ 0 ∷ 3 ∷ 0 ∷ 0 ∷ []
unfolding reads bytes
row3 = refl

row4 : reads (41 ∷ 12 ∷ 40 ∷ 9 ∷ 110 ∷ 117 ∷ 108 ∷ 108 ∷ 32 ∷ 97 ∷ 58 ∷ 9 ∷ 43 ∷ 105 ∷ 110 ∷ 102 ∷ 125 ∷ 10 ∷ 125 ∷ []) ≡ 13 ∷ 0 ∷ 1 ∷ 0 ∷ 0 ∷ []
unfolding reads bytes
row4 = refl

row5 : writes_by (settings (bytes "\t") (bytes "\n") (bytes " ") (bytes ": ") false) (bytes "\n{Round") ≡ 12 ∷ 2 ∷ 7 ∷ 8 ∷ 0 ∷ []
unfolding writes_by bytes
row5 = refl

row6 : reads (bytes "") ≡ 0 ∷ 5 ∷ 0 ∷ 0 ∷ 0 ∷ 1 ∷ []
unfolding reads bytes
row6 = refl

row7 : reads (13 ∷ 10 ∷ 10 ∷ 13 ∷ []) ≡ 0 ∷ 5 ∷ 0 ∷ 4 ∷ 4 ∷ 1 ∷ []
unfolding reads bytes
row7 = refl

row8 : reads (40 ∷ 9 ∷ 125 ∷ 47 ∷ 47 ∷ 32 ∷ 99 ∷ 10 ∷ 47 ∷ 47 ∷ 47 ∷ 10 ∷ 41 ∷ 9 ∷ 34 ∷ 9 ∷ 43 ∷ 110 ∷ 97 ∷ 110 ∷ 34 ∷ 34 ∷ 34 ∷ 9 ∷ 39 ∷ 34 ∷ 34 ∷ 34 ∷ 47 ∷ 47 ∷ 32 ∷ 39 ∷ 39 ∷ 39 ∷ 34 ∷ 34 ∷ 34 ∷ 92 ∷ 10 ∷ 49 ∷ 44 ∷ 13 ∷ []) ≡ 9 ∷ 0 ∷ 1 ∷ 0 ∷ 0 ∷ []
unfolding reads bytes
row8 = refl

row9 : shows (bytes "'''\\n'''") ≡ 0 ∷ (bytes "\\n")
unfolding shows bytes
row9 = refl

row10 : reads (bytes "\n\t2 ") ≡ 0 ∷ 2 ∷ 2 ∷ 3 ∷ 3 ∷ 1 ∷ []
unfolding reads bytes
row10 = refl

row11 : writes_by (settings (bytes "\t") (bytes "\n") (bytes " ") (bytes ": ") false) (39 ∷ 195 ∷ 169 ∷ 120 ∷ 120 ∷ 120 ∷ 120 ∷ 120 ∷ 120 ∷ 120 ∷ 120 ∷ 120 ∷ 120 ∷ 120 ∷ 120 ∷ 120 ∷ 120 ∷ 120 ∷ 120 ∷ 120 ∷ 120 ∷ 120 ∷ 120 ∷ 120 ∷ 120 ∷ 120 ∷ 120 ∷ 120 ∷ 120 ∷ 120 ∷ 120 ∷ 120 ∷ 120 ∷ 120 ∷ 120 ∷ 120 ∷ 120 ∷ 120 ∷ 120 ∷ 120 ∷ 39 ∷ 40 ∷ 34 ∷ 34 ∷ 40 ∷ 123 ∷ 32 ∷ 95 ∷ 58 ∷ 34 ∷ 34 ∷ 34 ∷ 120 ∷ 120 ∷ 120 ∷ 120 ∷ 120 ∷ 120 ∷ 120 ∷ 120 ∷ 120 ∷ 120 ∷ 120 ∷ 120 ∷ 120 ∷ 120 ∷ 120 ∷ 34 ∷ 34 ∷ 34 ∷ 125 ∷ 32 ∷ 41 ∷ 44 ∷ 41 ∷ 32 ∷ []) ≡ 0 ∷ (39 ∷ 195 ∷ 169 ∷ 120 ∷ 120 ∷ 120 ∷ 120 ∷ 120 ∷ 120 ∷ 120 ∷ 120 ∷ 120 ∷ 120 ∷ 120 ∷ 120 ∷ 120 ∷ 120 ∷ 120 ∷ 120 ∷ 120 ∷ 120 ∷ 120 ∷ 120 ∷ 120 ∷ 120 ∷ 120 ∷ 120 ∷ 120 ∷ 120 ∷ 120 ∷ 120 ∷ 120 ∷ 120 ∷ 120 ∷ 120 ∷ 120 ∷ 120 ∷ 120 ∷ 120 ∷ 120 ∷ 39 ∷ 40 ∷ 10 ∷ 10 ∷ 41 ∷ [])
unfolding writes_by bytes
row11 = refl

row12 : reads (34 ∷ 34 ∷ 34 ∷ 228 ∷ 184 ∷ 173 ∷ 240 ∷ 159 ∷ 152 ∷ 128 ∷ 49 ∷ 34 ∷ 34 ∷ 34 ∷ 13 ∷ []) ≡ 0 ∷ 3 ∷ 0 ∷ 14 ∷ 14 ∷ 1 ∷ []
unfolding reads bytes
row12 = refl

row13 : reads (bytes "(a'\\") ≡ 9 ∷ 0 ∷ 1 ∷ 0 ∷ 0 ∷ []
unfolding reads bytes
row13 = refl

row14 : reads (bytes "#1#\"") ≡ 3 ∷ 0 ∷ 1 ∷ 0 ∷ 0 ∷ []
unfolding reads bytes
row14 = refl

row15 : reads (34 ∷ 65 ∷ 34 ∷ 40 ∷ 125 ∷ 34 ∷ 34 ∷ 34 ∷ 34 ∷ 120 ∷ 49 ∷ 91 ∷ 91 ∷ 34 ∷ 120 ∷ 34 ∷ 34 ∷ 34 ∷ 12 ∷ 116 ∷ 114 ∷ 117 ∷ 101 ∷ 49 ∷ 12 ∷ 123 ∷ 13 ∷ 34 ∷ 32 ∷ 34 ∷ 10 ∷ 34 ∷ 32 ∷ 39 ∷ 97 ∷ 34 ∷ 32 ∷ 93 ∷ 32 ∷ 34 ∷ 125 ∷ 97 ∷ 92 ∷ 117 ∷ 123 ∷ 52 ∷ 49 ∷ 125 ∷ 34 ∷ []) ≡ 11 ∷ 4 ∷ 5 ∷ 7 ∷ 5 ∷ []
unfolding reads bytes
row15 = refl

row16 : writes_by (settings (bytes "=") (bytes "\n") (bytes "=") (bytes ": ") false) (bytes " ") ≡ 0 ∷ (bytes "")
unfolding writes_by bytes
row16 = refl

row17 : reads (bytes "nul") ≡ 0 ∷ 1 ∷ 0 ∷ 3 ∷ 3 ∷ 1 ∷ []
unfolding reads bytes
row17 = refl

row18 : reads (bytes "players _ _,x1 x1,Round_3 ") ≡ 0 ∷ 4 ∷ 0 ∷ 26 ∷ 26 ∷ 7 ∷ 1 ∷ 0 ∷ 7 ∷ 7 ∷ 1 ∷ 1 ∷ 8 ∷ 9 ∷ 9 ∷ 1 ∷ 1 ∷ 10 ∷ 11 ∷ 11 ∷ 1 ∷ 1 ∷ 12 ∷ 14 ∷ 14 ∷ 1 ∷ 1 ∷ 15 ∷ 17 ∷ 17 ∷ 1 ∷ 1 ∷ 18 ∷ 25 ∷ 25 ∷ 1 ∷ []
unfolding reads bytes
row18 = refl

row19 : tokens_of (bytes "  {") ≡ 0 ∷ 4 ∷ 2 ∷ 3 ∷ []
unfolding tokens_of bytes
row19 = refl

row20 : reads (123 ∷ 13 ∷ 125 ∷ 49 ∷ 46 ∷ 46 ∷ 50 ∷ 9 ∷ 107 ∷ 58 ∷ 32 ∷ 49 ∷ 12 ∷ []) ≡ 10 ∷ 9 ∷ 10 ∷ 0 ∷ 0 ∷ []
unfolding reads bytes
row20 = refl

row21 : compares (bytes "\na ,\n[\n\ta  ],  \"s\" \"A\"\n(\n\ta\n\n)\n\t ") (bytes " a a,\"s\",a") ≡ 0 ∷ 0 ∷ []
unfolding compares bytes
row21 = refl

row22 : writes_by (settings (bytes "\t") (bytes "\n") (bytes " ") (bytes ": ") false) (bytes " 1..2 ,") ≡ 0 ∷ (bytes "1..2")
unfolding writes_by bytes
row22 = refl

row23 : reads (bytes " playe//r :\n\"\"([ -if\n\t]\n\n) ") ≡ 0 ∷ 4 ∷ 0 ∷ 27 ∷ 27 ∷ 6 ∷ 1 ∷ 1 ∷ 6 ∷ 6 ∷ 1 ∷ 8 ∷ 6 ∷ 11 ∷ 11 ∷ 1 ∷ 6 ∷ 12 ∷ 14 ∷ 26 ∷ 3 ∷ 4 ∷ 15 ∷ 23 ∷ 23 ∷ 2 ∷ 2 ∷ 17 ∷ 20 ∷ 20 ∷ 1 ∷ []
unfolding reads bytes
row23 = refl

row24 : shows (bytes "\"\"\"\\u{DBFF}\\u{FFFFFFFFF}\\/\\'\\u{10000}\"\"\"") ≡ 26 ∷ 0 ∷ 0 ∷ 0 ∷ 0 ∷ []
unfolding shows bytes
row24 = refl

row25 : writes_by (settings (bytes "\t") (bytes "\n") (bytes " ") (bytes ": ") false) (34 ∷ 115 ∷ 34 ∷ 32 ∷ 46 ∷ 34 ∷ 115 ∷ 34 ∷ 9 ∷ 39 ∷ 97 ∷ 47 ∷ 47 ∷ 9 ∷ 49 ∷ 125 ∷ 39 ∷ 12 ∷ 34 ∷ 65 ∷ 34 ∷ 40 ∷ 10 ∷ []) ≡ 12 ∷ 21 ∷ 22 ∷ 7 ∷ 0 ∷ []
unfolding writes_by bytes
row25 = refl

row26 : writes_by (settings (bytes "\t") (bytes "\n") (bytes " ") (bytes ": ") false) (34 ∷ 32 ∷ 228 ∷ 184 ∷ 173 ∷ 92 ∷ 34 ∷ 34 ∷ 13 ∷ 98 ∷ 10 ∷ 34 ∷ 34 ∷ 12 ∷ 47 ∷ 47 ∷ 12 ∷ 34 ∷ 34 ∷ 32 ∷ 34 ∷ 13 ∷ 34 ∷ 43 ∷ 45 ∷ 46 ∷ 10 ∷ 239 ∷ 187 ∷ 191 ∷ []) ≡ 3 ∷ 27 ∷ 30 ∷ 0 ∷ 0 ∷ []
unfolding writes_by bytes
row26 = refl

row27 : shows (bytes "\"\"\"\\M\"\"\"") ≡ 21 ∷ 0 ∷ 0 ∷ 0 ∷ 0 ∷ []
unfolding shows bytes
row27 = refl

row28 : writes_by (settings (bytes "\t") (bytes "\n") (bytes " ") (bytes ": ") false) (39 ∷ 125 ∷ 39 ∷ 10 ∷ 102 ∷ 97 ∷ 108 ∷ 115 ∷ 101 ∷ 32 ∷ 123 ∷ 13 ∷ 46 ∷ 53 ∷ 12 ∷ 34 ∷ 34 ∷ 34 ∷ 49 ∷ 72 ∷ 97 ∷ 108 ∷ 102 ∷ 120 ∷ 49 ∷ 91 ∷ 34 ∷ 34 ∷ 34 ∷ 47 ∷ 47 ∷ 10 ∷ 125 ∷ 9 ∷ 40 ∷ 10 ∷ 116 ∷ 114 ∷ 117 ∷ 101 ∷ []) ≡ 11 ∷ 15 ∷ 29 ∷ 8 ∷ 14 ∷ []
unfolding writes_by bytes
row28 = refl

row29 : tokens_of (bytes "  \n-\n\t,  _   {  }\n,\t\"\"\"x\"\"\"\n") ≡ 0 ∷ 11 ∷ 3 ∷ 4 ∷ 9 ∷ 6 ∷ 7 ∷ 10 ∷ 9 ∷ 10 ∷ 4 ∷ 13 ∷ 14 ∷ 5 ∷ 16 ∷ 17 ∷ 9 ∷ 18 ∷ 19 ∷ 14 ∷ 20 ∷ 27 ∷ []
unfolding tokens_of bytes
row29 = refl

row30 : reads (13 ∷ 13 ∷ []) ≡ 0 ∷ 5 ∷ 0 ∷ 2 ∷ 2 ∷ 1 ∷ []
unfolding reads bytes
row30 = refl

row31 : writes_by (settings (bytes "\t") (bytes "    ") (bytes "\n// ") (bytes "=") false) (bytes "   false:\n{}  \n\t'\"\"\"x 1Half' :  _\n\t") ≡ 0 ∷ (bytes "false={}    '\"\"\"x 1Half'=_    ")
unfolding writes_by bytes
row31 = refl

row32 : writes_by (settings (bytes "\t") (bytes "\n") (bytes " ") (bytes ": ") false) (41 ∷ 9 ∷ 39 ∷ 39 ∷ 39 ∷ 195 ∷ 169 ∷ 39 ∷ 39 ∷ 39 ∷ 95 ∷ 12 ∷ 102 ∷ 97 ∷ 108 ∷ 115 ∷ 101 ∷ 13 ∷ []) ≡ 13 ∷ 0 ∷ 1 ∷ 0 ∷ 0 ∷ []
unfolding writes_by bytes
row32 = refl

row33 : writes_by (settings (bytes "\t") (bytes "\n") (bytes " ") (bytes ": ") false) (13 ∷ 12 ∷ 40 ∷ 39 ∷ 72 ∷ 97 ∷ 102 ∷ 39 ∷ 44 ∷ 13 ∷ 10 ∷ []) ≡ 9 ∷ 2 ∷ 3 ∷ 0 ∷ 0 ∷ []
unfolding writes_by bytes
row33 = refl

row34 : reads (bytes "\\}'(") ≡ 3 ∷ 0 ∷ 1 ∷ 0 ∷ 0 ∷ []
unfolding reads bytes
row34 = refl

row35 : tokens_of (bytes " \n\tx1:\nplayers\n\t,\n\n") ≡ 0 ∷ 10 ∷ 3 ∷ 5 ∷ 8 ∷ 5 ∷ 6 ∷ 10 ∷ 7 ∷ 14 ∷ 9 ∷ 16 ∷ 17 ∷ []
unfolding tokens_of bytes
row35 = refl

row36 : writes_by (settings (bytes "\t") (bytes "\n") (bytes " ") (bytes ": ") false) (57 ∷ 97 ∷ 95 ∷ 98 ∷ 32 ∷ 41 ∷ 110 ∷ 117 ∷ 108 ∷ 13 ∷ 91 ∷ 12 ∷ 93 ∷ 9 ∷ 34 ∷ 65 ∷ 34 ∷ 40 ∷ 120 ∷ 49 ∷ 123 ∷ 12 ∷ []) ≡ 13 ∷ 5 ∷ 6 ∷ 0 ∷ 0 ∷ []
unfolding writes_by bytes
row36 = refl

row37 : reads (bytes "}a]/") ≡ 13 ∷ 0 ∷ 1 ∷ 0 ∷ 0 ∷ []
unfolding reads bytes
row37 = refl

row38 : tokens_of (bytes "['a:") ≡ 0 ∷ 2 ∷ 0 ∷ 1 ∷ 0 ∷ 1 ∷ 2 ∷ 10 ∷ 2 ∷ 3 ∷ 8 ∷ 3 ∷ 4 ∷ []
unfolding tokens_of bytes
row38 = refl

row39 : writes_by (settings (bytes "\t") (bytes "\n") (bytes " ") (bytes ": ") false) (bytes "b,Round_3 b True false nul") ≡ 0 ∷ (bytes "[\n\tb\n\tRound_3\n\tb\n\tTrue\n\tfalse\n\tnul\n]")
unfolding writes_by bytes
row39 = refl

row40 : compares (32 ∷ 9 ∷ 47 ∷ 47 ∷ 10 ∷ 9 ∷ 47 ∷ 47 ∷ 226 ∷ 128 ∷ 168 ∷ 194 ∷ 133 ∷ 10 ∷ []) (13 ∷ 32 ∷ 47 ∷ 47 ∷ 10 ∷ 12 ∷ 47 ∷ 47 ∷ 226 ∷ 128 ∷ 168 ∷ 194 ∷ 133 ∷ 10 ∷ 12 ∷ []) ≡ 0 ∷ 1 ∷ []
unfolding compares bytes
row40 = refl

row41 : reads (41 ∷ 123 ∷ 39 ∷ 49 ∷ 72 ∷ 97 ∷ 108 ∷ 102 ∷ 91 ∷ 34 ∷ 34 ∷ 34 ∷ 195 ∷ 169 ∷ 39 ∷ 98 ∷ 10 ∷ 50 ∷ 32 ∷ 107 ∷ 58 ∷ 32 ∷ 49 ∷ 32 ∷ []) ≡ 13 ∷ 0 ∷ 1 ∷ 0 ∷ 0 ∷ []
unfolding reads bytes
row41 = refl

row42 : writes_by (settings (bytes "\t") (bytes "\n") (bytes " ") (bytes ": ") false) (57 ∷ 97 ∷ 95 ∷ 98 ∷ 12 ∷ 44 ∷ 41 ∷ 93 ∷ 9 ∷ 125 ∷ 9 ∷ 112 ∷ 108 ∷ 97 ∷ 121 ∷ 101 ∷ 114 ∷ 115 ∷ 9 ∷ 39 ∷ 39 ∷ 39 ∷ 39 ∷ 39 ∷ 39 ∷ 84 ∷ 114 ∷ 117 ∷ 101 ∷ 40 ∷ 12 ∷ []) ≡ 13 ∷ 6 ∷ 7 ∷ 0 ∷ 0 ∷ []
unfolding writes_by bytes
row42 = refl

row43 : reads (32 ∷ 32 ∷ 10 ∷ 116 ∷ 114 ∷ 117 ∷ 101 ∷ 58 ∷ 10 ∷ 9 ∷ 34 ∷ 125 ∷ 34 ∷ 32 ∷ 32 ∷ 44 ∷ 10 ∷ 10 ∷ 9 ∷ 120 ∷ 49 ∷ 10 ∷ 9 ∷ 58 ∷ 32 ∷ 32 ∷ 116 ∷ 114 ∷ 117 ∷ 101 ∷ 32 ∷ 44 ∷ 32 ∷ 10 ∷ 9 ∷ 112 ∷ 108 ∷ 97 ∷ 121 ∷ 101 ∷ 114 ∷ 115 ∷ 32 ∷ 32 ∷ 58 ∷ 10 ∷ 34 ∷ 34 ∷ 10 ∷ 32 ∷ 110 ∷ 117 ∷ 108 ∷ 58 ∷ 32 ∷ 39 ∷ 34 ∷ 47 ∷ 47 ∷ 120 ∷ 195 ∷ 169 ∷ 39 ∷ 32 ∷ 10 ∷ 9 ∷ []) ≡ 0 ∷ 5 ∷ 0 ∷ 66 ∷ 66 ∷ 9 ∷ 1 ∷ 3 ∷ 7 ∷ 7 ∷ 1 ∷ 3 ∷ 10 ∷ 13 ∷ 13 ∷ 1 ∷ 1 ∷ 19 ∷ 21 ∷ 21 ∷ 1 ∷ 1 ∷ 26 ∷ 30 ∷ 30 ∷ 1 ∷ 1 ∷ 35 ∷ 42 ∷ 42 ∷ 1 ∷ 3 ∷ 46 ∷ 48 ∷ 48 ∷ 1 ∷ 1 ∷ 50 ∷ 53 ∷ 53 ∷ 1 ∷ 3 ∷ 55 ∷ 63 ∷ 63 ∷ 1 ∷ []
unfolding reads bytes
row43 = refl

row44 : writes_by (settings (bytes "\t") (bytes "\n") (bytes " ") (bytes ": ") false) (bytes "") ≡ 0 ∷ (bytes "")
unfolding writes_by bytes
row44 = refl

row45 : writes_by (settings (13 ∷ 10 ∷ []) (bytes "\n") (bytes "\"") (bytes ": ") false) (32 ∷ 10 ∷ 32 ∷ 10 ∷ 91 ∷ 120 ∷ 49 ∷ 10 ∷ 13 ∷ 10 ∷ 13 ∷ 10 ∷ 82 ∷ 111 ∷ 117 ∷ 110 ∷ 100 ∷ 95 ∷ 51 ∷ 32 ∷ 13 ∷ 112 ∷ 108 ∷ 97 ∷ 121 ∷ 101 ∷ 114 ∷ 115 ∷ 13 ∷ 10 ∷ 44 ∷ 32 ∷ 32 ∷ 10 ∷ 32 ∷ 10 ∷ 107 ∷ 101 ∷ 121 ∷ 9 ∷ 9 ∷ 82 ∷ 111 ∷ 117 ∷ 110 ∷ 100 ∷ 95 ∷ 51 ∷ 12 ∷ 93 ∷ 10 ∷ []) ≡ 0 ∷ (91 ∷ 10 ∷ 13 ∷ 10 ∷ 120 ∷ 49 ∷ 10 ∷ 13 ∷ 10 ∷ 82 ∷ 111 ∷ 117 ∷ 110 ∷ 100 ∷ 95 ∷ 51 ∷ 10 ∷ 13 ∷ 10 ∷ 112 ∷ 108 ∷ 97 ∷ 121 ∷ 101 ∷ 114 ∷ 115 ∷ 10 ∷ 13 ∷ 10 ∷ 107 ∷ 101 ∷ 121 ∷ 10 ∷ 13 ∷ 10 ∷ 82 ∷ 111 ∷ 117 ∷ 110 ∷ 100 ∷ 95 ∷ 51 ∷ 10 ∷ 93 ∷ [])
unfolding writes_by bytes
row45 = refl

row46 : reads (bytes "{'('") ≡ 12 ∷ 1 ∷ 4 ∷ 8 ∷ 0 ∷ []
unfolding reads bytes
row46 = refl

row47 : reads (bytes ":(\"#") ≡ 10 ∷ 0 ∷ 1 ∷ 0 ∷ 0 ∷ []
unfolding reads bytes
row47 = refl

row48 : reads (bytes "\n\t\n\ta  :x1\n,\n\n\t+inf  :\n\t{nul  : 1..2, }\n\t\nRound_3 :  \"\"\"xxxxxxxxx\"\"\"  (),    ") ≡ 0 ∷ 5 ∷ 0 ∷ 77 ∷ 77 ∷ 9 ∷ 1 ∷ 4 ∷ 5 ∷ 5 ∷ 1 ∷ 1 ∷ 8 ∷ 10 ∷ 10 ∷ 1 ∷ 2 ∷ 15 ∷ 19 ∷ 19 ∷ 1 ∷ 5 ∷ 24 ∷ 39 ∷ 39 ∷ 3 ∷ 1 ∷ 25 ∷ 28 ∷ 28 ∷ 1 ∷ 2 ∷ 32 ∷ 36 ∷ 36 ∷ 1 ∷ 1 ∷ 42 ∷ 49 ∷ 49 ∷ 1 ∷ 6 ∷ 53 ∷ 68 ∷ 72 ∷ 1 ∷ []
unfolding reads bytes
row48 = refl

row49 : writes_by (settings (bytes "\t") (bytes " ") (bytes " ") (bytes ": ") true) (13 ∷ 13 ∷ []) ≡ 0 ∷ (bytes "{}")
unfolding writes_by bytes
row49 = refl

row50 : writes_by (settings (bytes "\t") (bytes "\n") (bytes " ") (bytes ": ") false) (39 ∷ 47 ∷ 47 ∷ 240 ∷ 159 ∷ 152 ∷ 128 ∷ 120 ∷ 39 ∷ 125 ∷ 10 ∷ 45 ∷ 49 ∷ 47 ∷ 47 ∷ 13 ∷ 10 ∷ 123 ∷ 13 ∷ 91 ∷ 13 ∷ 41 ∷ 52 ∷ 50 ∷ 112 ∷ 108 ∷ 97 ∷ 121 ∷ 101 ∷ 114 ∷ 115 ∷ 107 ∷ 58 ∷ 32 ∷ 49 ∷ 9 ∷ 49 ∷ 9 ∷ 34 ∷ 32 ∷ 34 ∷ 9 ∷ 46 ∷ 46 ∷ 32 ∷ []) ≡ 13 ∷ 9 ∷ 10 ∷ 0 ∷ 0 ∷ []
unfolding writes_by bytes
row50 = refl

row51 : writes_by (settings (bytes "\t") (bytes "\n") (bytes " ") (bytes ": ") false) (57 ∷ 97 ∷ 95 ∷ 98 ∷ 12 ∷ 102 ∷ 97 ∷ 108 ∷ 115 ∷ 101 ∷ 13 ∷ 50 ∷ 95 ∷ 91 ∷ 34 ∷ 34 ∷ 34 ∷ 240 ∷ 159 ∷ 152 ∷ 128 ∷ 195 ∷ 169 ∷ 34 ∷ 34 ∷ 34 ∷ 34 ∷ 65 ∷ 34 ∷ 40 ∷ []) ≡ 12 ∷ 29 ∷ 30 ∷ 7 ∷ 0 ∷ []
unfolding writes_by bytes
row51 = refl

row52 : tokens_of (bytes ":\n:'") ≡ 0 ∷ 8 ∷ 0 ∷ 1 ∷ 8 ∷ 2 ∷ 3 ∷ 0 ∷ 3 ∷ 4 ∷ []
unfolding tokens_of bytes
row52 = refl

row53 : writes_by (settings (bytes "\t") (bytes "\n") (bytes " ") (bytes ": ") false) (bytes "{true: \"\"('xxxxxxxxxxxx' (1_000 +-. 1.5e-3 42 +nan +-.,)), } ") ≡ 0 ∷ (bytes "true: \"\"(\n\n)\n")
unfolding writes_by bytes
row53 = refl

row54 : writes_by (settings (bytes "\t") (bytes "\n") (bytes " ") (bytes ": ") false) (32 ∷ 32 ∷ 32 ∷ 123 ∷ 32 ∷ 110 ∷ 117 ∷ 108 ∷ 10 ∷ 9 ∷ 58 ∷ 32 ∷ 9 ∷ 110 ∷ 117 ∷ 108 ∷ 108 ∷ 10 ∷ 44 ∷ 10 ∷ 112 ∷ 108 ∷ 97 ∷ 121 ∷ 101 ∷ 114 ∷ 115 ∷ 10 ∷ 58 ∷ 32 ∷ 32 ∷ 123 ∷ 32 ∷ 32 ∷ 120 ∷ 49 ∷ 10 ∷ 58 ∷ 32 ∷ 32 ∷ 34 ∷ 34 ∷ 34 ∷ 34 ∷ 92 ∷ 10 ∷ 240 ∷ 159 ∷ 152 ∷ 128 ∷ 72 ∷ 97 ∷ 108 ∷ 102 ∷ 9 ∷ 34 ∷ 34 ∷ 34 ∷ 32 ∷ 32 ∷ 125 ∷ 10 ∷ 44 ∷ 32 ∷ 32 ∷ 32 ∷ 32 ∷ 125 ∷ 10 ∷ []) ≡ 0 ∷ (110 ∷ 117 ∷ 108 ∷ 58 ∷ 32 ∷ 110 ∷ 117 ∷ 108 ∷ 108 ∷ 10 ∷ 112 ∷ 108 ∷ 97 ∷ 121 ∷ 101 ∷ 114 ∷ 115 ∷ 58 ∷ 32 ∷ 123 ∷ 10 ∷ 9 ∷ 120 ∷ 49 ∷ 58 ∷ 32 ∷ 34 ∷ 34 ∷ 34 ∷ 34 ∷ 92 ∷ 10 ∷ 240 ∷ 159 ∷ 152 ∷ 128 ∷ 72 ∷ 97 ∷ 108 ∷ 102 ∷ 9 ∷ 34 ∷ 34 ∷ 34 ∷ 10 ∷ 125 ∷ 10 ∷ [])
unfolding writes_by bytes
row54 = refl

row55 : tokens_of (bytes "]\na#") ≡ 0 ∷ 3 ∷ 0 ∷ 1 ∷ 10 ∷ 2 ∷ 3 ∷ 0 ∷ 3 ∷ 4 ∷ []
unfolding tokens_of bytes
row55 = refl

row56 : shows (bytes "'''") ≡ 18 ∷ 0 ∷ 0 ∷ 0 ∷ 0 ∷ []
unfolding shows bytes
row56 = refl

row57 : shows (bytes "\"\\n\"") ≡ 0 ∷ (bytes "\n")
unfolding shows bytes
row57 = refl

row58 : writes_by (settings (bytes "\t") (bytes "\n") (bytes " ") (bytes ": ") false) (98 ∷ 9 ∷ 97 ∷ 58 ∷ 10 ∷ 41 ∷ 13 ∷ 98 ∷ 32 ∷ 40 ∷ 125 ∷ 12 ∷ 34 ∷ 65 ∷ 34 ∷ 40 ∷ 32 ∷ 41 ∷ 123 ∷ 10 ∷ 84 ∷ 114 ∷ 117 ∷ 101 ∷ 43 ∷ 116 ∷ 114 ∷ 117 ∷ 101 ∷ 13 ∷ 116 ∷ 114 ∷ 117 ∷ 101 ∷ 13 ∷ 112 ∷ 108 ∷ 97 ∷ 121 ∷ 101 ∷ 114 ∷ 115 ∷ []) ≡ 10 ∷ 3 ∷ 4 ∷ 0 ∷ 0 ∷ []
unfolding writes_by bytes
row58 = refl

row59 : writes_by (settings (bytes "\t") (bytes "\n") (bytes " ") (bytes ": ") true) (bytes "false  ") ≡ 0 ∷ (bytes "false")
unfolding writes_by bytes
row59 = refl

row60 : reads (bytes "((\n#") ≡ 9 ∷ 0 ∷ 1 ∷ 0 ∷ 0 ∷ []
unfolding reads bytes
row60 = refl

row61 : reads (bytes "\n\"\"\n( [  [\n\t{},- \n\t]\n\n\t]\n,  \t),  ") ≡ 0 ∷ 6 ∷ 1 ∷ 3 ∷ 30 ∷ 5 ∷ 4 ∷ 6 ∷ 24 ∷ 24 ∷ 4 ∷ 4 ∷ 9 ∷ 20 ∷ 20 ∷ 3 ∷ 5 ∷ 12 ∷ 14 ∷ 14 ∷ 1 ∷ 2 ∷ 15 ∷ 16 ∷ 16 ∷ 1 ∷ []
unfolding reads bytes
row61 = refl

row62 : reads (bytes "'a//") ≡ 3 ∷ 0 ∷ 1 ∷ 0 ∷ 0 ∷ []
unfolding reads bytes
row62 = refl

row63 : reads (bytes "/1,1") ≡ 3 ∷ 0 ∷ 1 ∷ 0 ∷ 0 ∷ []
unfolding reads bytes
row63 = refl

row64 : writes_by (settings (bytes "\t") (bytes "\n") (bytes " ") (bytes ": ") false) (32 ∷ 34 ∷ 34 ∷ 40 ∷ 32 ∷ 49 ∷ 95 ∷ 48 ∷ 48 ∷ 48 ∷ 47 ∷ 47 ∷ 226 ∷ 128 ∷ 168 ∷ 194 ∷ 133 ∷ 10 ∷ 39 ∷ 120 ∷ 120 ∷ 120 ∷ 120 ∷ 120 ∷ 120 ∷ 120 ∷ 120 ∷ 120 ∷ 120 ∷ 120 ∷ 120 ∷ 120 ∷ 120 ∷ 120 ∷ 39 ∷ 44 ∷ 47 ∷ 47 ∷ 47 ∷ 10 ∷ 39 ∷ 72 ∷ 97 ∷ 108 ∷ 102 ∷ 44 ∷ 195 ∷ 169 ∷ 39 ∷ 10 ∷ 47 ∷ 47 ∷ 32 ∷ 99 ∷ 10 ∷ 41 ∷ 44 ∷ []) ≡ 0 ∷ (bytes "\"\"(\n\n\n\n\n\t// c\n)")
unfolding writes_by bytes
row64 = refl

row65 : reads (bytes "") ≡ 0 ∷ 5 ∷ 0 ∷ 0 ∷ 0 ∷ 1 ∷ []
unfolding reads bytes
row65 = refl

row66 : shows (bytes "'\\u{FFFFF'") ≡ 0 ∷ (bytes "\\u{FFFFF")
unfolding shows bytes
row66 = refl

row67 : shows (bytes "'\\/\\'\\\n\\$'") ≡ 19 ∷ 0 ∷ 0 ∷ 0 ∷ 0 ∷ []
unfolding shows bytes
row67 = refl

row68 : reads (34 ∷ 34 ∷ 39 ∷ 39 ∷ 39 ∷ 39 ∷ 39 ∷ 39 ∷ 13 ∷ 34 ∷ 34 ∷ 34 ∷ 120 ∷ 34 ∷ 34 ∷ 34 ∷ 93 ∷ 32 ∷ 41 ∷ 39 ∷ 39 ∷ 10 ∷ 41 ∷ 10 ∷ 39 ∷ 39 ∷ 39 ∷ 120 ∷ 39 ∷ 39 ∷ 39 ∷ 9 ∷ 48 ∷ 0 ∷ 12 ∷ 44 ∷ 12 ∷ 102 ∷ 97 ∷ 108 ∷ 115 ∷ 101 ∷ 10 ∷ 47 ∷ 47 ∷ 32 ∷ 99 ∷ 10 ∷ []) ≡ 13 ∷ 16 ∷ 17 ∷ 0 ∷ 0 ∷ []
unfolding reads bytes
row68 = refl

row69 : tokens_of (32 ∷ 93 ∷ 47 ∷ 47 ∷ 32 ∷ 39 ∷ 39 ∷ 39 ∷ 34 ∷ 34 ∷ 34 ∷ 92 ∷ 10 ∷ 58 ∷ 47 ∷ 47 ∷ 9 ∷ 12 ∷ 120 ∷ 13 ∷ 10 ∷ 34 ∷ 34 ∷ 34 ∷ 92 ∷ 120 ∷ 92 ∷ 10 ∷ 240 ∷ 159 ∷ 0 ∷ 152 ∷ 128 ∷ 195 ∷ 169 ∷ 34 ∷ 34 ∷ 44 ∷ 32 ∷ 32 ∷ []) ≡ 2 ∷ 28 ∷ 28 ∷ 0 ∷ 0 ∷ []
unfolding tokens_of bytes
row69 = refl

row70 : writes_by (settings (bytes "\t") (bytes "\n") (bytes " ") (bytes ": ") false) (49 ∷ 46 ∷ 53 ∷ 101 ∷ 45 ∷ 51 ∷ 32 ∷ 45 ∷ 49 ∷ 48 ∷ 34 ∷ 240 ∷ 159 ∷ 152 ∷ 128 ∷ 195 ∷ 169 ∷ 195 ∷ 169 ∷ 34 ∷ 84 ∷ 114 ∷ 117 ∷ 101 ∷ 13 ∷ 123 ∷ 10 ∷ 41 ∷ []) ≡ 11 ∷ 27 ∷ 28 ∷ 5 ∷ 7 ∷ []
unfolding writes_by bytes
row70 = refl

row71 : shows (bytes "\"\"\"\"\"\"") ≡ 0 ∷ (bytes "")
unfolding shows bytes
row71 = refl

row72 : shows (39 ∷ 92 ∷ 10 ∷ 8 ∷ 39 ∷ []) ≡ 19 ∷ 0 ∷ 0 ∷ 0 ∷ 0 ∷ []
unfolding shows bytes
row72 = refl

row73 : shows (bytes "'\\u{___'") ≡ 0 ∷ (bytes "\\u{___")
unfolding shows bytes
row73 = refl

row74 : reads (123 ∷ 39 ∷ 34 ∷ 13 ∷ []) ≡ 3 ∷ 1 ∷ 2 ∷ 0 ∷ 0 ∷ []
unfolding reads bytes
row74 = refl

row75 : shows (34 ∷ 34 ∷ 34 ∷ 97 ∷ 92 ∷ 116 ∷ 92 ∷ 10 ∷ 226 ∷ 128 ∷ 139 ∷ 39 ∷ 39 ∷ 32 ∷ 34 ∷ 34 ∷ 34 ∷ 34 ∷ 34 ∷ []) ≡ 0 ∷ (97 ∷ 9 ∷ 226 ∷ 128 ∷ 139 ∷ 39 ∷ 39 ∷ 32 ∷ 34 ∷ 34 ∷ [])
unfolding shows bytes
row75 = refl

row76 : writes_by (settings (bytes "\t") (bytes "\n") (bytes " ") (bytes ": ") false) (95 ∷ 10 ∷ 39 ∷ 32 ∷ 72 ∷ 97 ∷ 108 ∷ 102 ∷ 39 ∷ 9 ∷ 34 ∷ 91 ∷ 92 ∷ 110 ∷ 34 ∷ 12 ∷ 40 ∷ 13 ∷ 40 ∷ 47 ∷ 47 ∷ 32 ∷ 99 ∷ 10 ∷ 13 ∷ 195 ∷ 169 ∷ 12 ∷ 34 ∷ 34 ∷ 34 ∷ 120 ∷ 34 ∷ 34 ∷ 34 ∷ 10 ∷ 40 ∷ 12 ∷ 97 ∷ 34 ∷ 120 ∷ 39 ∷ 9 ∷ 34 ∷ []) ≡ 9 ∷ 18 ∷ 19 ∷ 0 ∷ 0 ∷ []
unfolding writes_by bytes
row76 = refl

row77 : writes_by (settings (bytes "\t") (bytes "\n") (bytes " ") (bytes ": ") false) (bytes " True:[]a: \"\"(),") ≡ 0 ∷ (bytes "True: []\na: \"\"\n")
unfolding writes_by bytes
row77 = refl

row78 : reads (112 ∷ 108 ∷ 97 ∷ 121 ∷ 101 ∷ 114 ∷ 115 ∷ 13 ∷ 46 ∷ 13 ∷ 34 ∷ 47 ∷ 47 ∷ 72 ∷ 97 ∷ 108 ∷ 102 ∷ 91 ∷ 125 ∷ 34 ∷ 43 ∷ 9 ∷ 107 ∷ 58 ∷ 32 ∷ 49 ∷ 9 ∷ 34 ∷ 120 ∷ 34 ∷ 13 ∷ 58 ∷ 12 ∷ 98 ∷ 47 ∷ 47 ∷ 32 ∷ 97 ∷ 32 ∷ 47 ∷ 47 ∷ 32 ∷ 98 ∷ 10 ∷ 32 ∷ 43 ∷ 105 ∷ 110 ∷ 102 ∷ 110 ∷ 117 ∷ 108 ∷ 108 ∷ 32 ∷ []) ≡ 10 ∷ 23 ∷ 24 ∷ 0 ∷ 0 ∷ []
unfolding reads bytes
row78 = refl

row79 : tokens_of (bytes "]/,/") ≡ 0 ∷ 3 ∷ 0 ∷ 1 ∷ 0 ∷ 1 ∷ 2 ∷ 9 ∷ 2 ∷ 3 ∷ 0 ∷ 3 ∷ 4 ∷ []
unfolding tokens_of bytes
row79 = refl

row80 : reads (41 ∷ 10 ∷ 107 ∷ 58 ∷ 32 ∷ 49 ∷ 123 ∷ 9 ∷ 58 ∷ 9 ∷ 93 ∷ 112 ∷ 108 ∷ 97 ∷ 121 ∷ 101 ∷ 114 ∷ 115 ∷ 13 ∷ 40 ∷ 9 ∷ 123 ∷ 112 ∷ 108 ∷ 97 ∷ 121 ∷ 101 ∷ 114 ∷ 115 ∷ 9 ∷ 93 ∷ 34 ∷ 97 ∷ 9 ∷ 228 ∷ 184 ∷ 173 ∷ 34 ∷ 91 ∷ 10 ∷ 107 ∷ 58 ∷ 32 ∷ 49 ∷ 10 ∷ 107 ∷ 58 ∷ 32 ∷ 49 ∷ []) ≡ 13 ∷ 0 ∷ 1 ∷ 0 ∷ 0 ∷ []
unfolding reads bytes
row80 = refl

row81 : reads (bytes "\n###") ≡ 3 ∷ 1 ∷ 2 ∷ 0 ∷ 0 ∷ []
unfolding reads bytes
row81 = refl

row82 : reads (9 ∷ 13 ∷ 10 ∷ 82 ∷ 111 ∷ 117 ∷ 110 ∷ 100 ∷ 95 ∷ 51 ∷ 58 ∷ 10 ∷ 13 ∷ 10 ∷ 34 ∷ 34 ∷ 10 ∷ 40 ∷ 13 ∷ 10 ∷ 98 ∷ 10 ∷ 13 ∷ 120 ∷ 49 ∷ 10 ∷ 13 ∷ 10 ∷ 44 ∷ 10 ∷ 13 ∷ 10 ∷ 32 ∷ 95 ∷ 32 ∷ 9 ∷ 110 ∷ 117 ∷ 108 ∷ 108 ∷ 9 ∷ 32 ∷ 120 ∷ 49 ∷ 10 ∷ 9 ∷ 41 ∷ 10 ∷ 13 ∷ 10 ∷ 39 ∷ 39 ∷ 32 ∷ 10 ∷ 32 ∷ 10 ∷ 58 ∷ 32 ∷ 34 ∷ 228 ∷ 184 ∷ 173 ∷ 97 ∷ 195 ∷ 169 ∷ 92 ∷ 92 ∷ 92 ∷ 117 ∷ 123 ∷ 52 ∷ 49 ∷ 125 ∷ 34 ∷ 10 ∷ 13 ∷ 10 ∷ 10 ∷ []) ≡ 0 ∷ 5 ∷ 0 ∷ 78 ∷ 78 ∷ 10 ∷ 1 ∷ 3 ∷ 10 ∷ 10 ∷ 1 ∷ 6 ∷ 14 ∷ 16 ∷ 47 ∷ 6 ∷ 1 ∷ 20 ∷ 21 ∷ 21 ∷ 1 ∷ 1 ∷ 23 ∷ 25 ∷ 25 ∷ 1 ∷ 1 ∷ 33 ∷ 34 ∷ 34 ∷ 1 ∷ 1 ∷ 36 ∷ 40 ∷ 40 ∷ 1 ∷ 1 ∷ 42 ∷ 44 ∷ 44 ∷ 1 ∷ 3 ∷ 50 ∷ 52 ∷ 52 ∷ 1 ∷ 3 ∷ 58 ∷ 74 ∷ 74 ∷ 1 ∷ []
unfolding reads bytes
row82 = refl

row83 : writes_by (settings (bytes "\t") (bytes "\n") (bytes " ") (bytes ": ") false) (49 ∷ 44 ∷ 9 ∷ 41 ∷ 35 ∷ 13 ∷ 34 ∷ 34 ∷ 12 ∷ 239 ∷ 187 ∷ 191 ∷ 9 ∷ 46 ∷ 32 ∷ 41 ∷ 32 ∷ 82 ∷ 111 ∷ 117 ∷ 110 ∷ 100 ∷ 95 ∷ 51 ∷ 13 ∷ 49 ∷ 46 ∷ 46 ∷ 50 ∷ 32 ∷ 93 ∷ 10 ∷ 47 ∷ 47 ∷ 32 ∷ 39 ∷ 39 ∷ 39 ∷ 34 ∷ 34 ∷ 34 ∷ 92 ∷ 32 ∷ 92 ∷ 47 ∷ 47 ∷ 10 ∷ 12 ∷ []) ≡ 13 ∷ 3 ∷ 4 ∷ 0 ∷ 0 ∷ []
unfolding writes_by bytes
row83 = refl

row84 : writes_by (settings (bytes "\t") (bytes "\n") (bytes " ") (bytes ": ") false) (32 ∷ 32 ∷ 123 ∷ 97 ∷ 10 ∷ 58 ∷ 120 ∷ 49 ∷ 32 ∷ 10 ∷ 116 ∷ 114 ∷ 237 ∷ 160 ∷ 128 ∷ 117 ∷ 101 ∷ 244 ∷ 144 ∷ 128 ∷ 128 ∷ 58 ∷ 10 ∷ 45 ∷ 105 ∷ 110 ∷ 102 ∷ 32 ∷ 32 ∷ 32 ∷ 125 ∷ 32 ∷ 10 ∷ 9 ∷ []) ≡ 2 ∷ 12 ∷ 12 ∷ 0 ∷ 0 ∷ []
unfolding writes_by bytes
row84 = refl

row85 : tokens_of (112 ∷ 108 ∷ 97 ∷ 121 ∷ 101 ∷ 114 ∷ 115 ∷ 12 ∷ 91 ∷ 125 ∷ 9 ∷ 41 ∷ 13 ∷ 49 ∷ 46 ∷ 46 ∷ 50 ∷ 13 ∷ 58 ∷ 45 ∷ 49 ∷ 39 ∷ 120 ∷ 39 ∷ 12 ∷ 91 ∷ 91 ∷ 123 ∷ []) ≡ 0 ∷ 10 ∷ 0 ∷ 7 ∷ 2 ∷ 8 ∷ 9 ∷ 5 ∷ 9 ∷ 10 ∷ 7 ∷ 11 ∷ 12 ∷ 11 ∷ 13 ∷ 17 ∷ 8 ∷ 18 ∷ 19 ∷ 11 ∷ 19 ∷ 21 ∷ 13 ∷ 21 ∷ 24 ∷ 2 ∷ 25 ∷ 26 ∷ 2 ∷ 26 ∷ 27 ∷ 4 ∷ 27 ∷ 28 ∷ []
unfolding tokens_of bytes
row85 = refl

row86 : writes_by (settings (bytes "\t") (bytes "\n") (bytes " ") (bytes ": ") false) (34 ∷ 47 ∷ 47 ∷ 120 ∷ 120 ∷ 34 ∷ 13 ∷ 44 ∷ 47 ∷ 47 ∷ 226 ∷ 128 ∷ 168 ∷ 194 ∷ 133 ∷ 10 ∷ 10 ∷ 102 ∷ 97 ∷ 108 ∷ 115 ∷ 101 ∷ 44 ∷ 10 ∷ 93 ∷ 10 ∷ 93 ∷ 32 ∷ 47 ∷ 47 ∷ 32 ∷ 97 ∷ 32 ∷ 47 ∷ 47 ∷ 32 ∷ 98 ∷ 10 ∷ 32 ∷ 95 ∷ 9 ∷ 58 ∷ 9 ∷ 40 ∷ 13 ∷ 58 ∷ 32 ∷ []) ≡ 13 ∷ 24 ∷ 25 ∷ 0 ∷ 0 ∷ []
unfolding writes_by bytes
row86 = refl

row87 : reads (34 ∷ 97 ∷ 13 ∷ 10 ∷ []) ≡ 3 ∷ 0 ∷ 1 ∷ 0 ∷ 0 ∷ []
unfolding reads bytes
row87 = refl

row88 : tokens_of (13 ∷ 32 ∷ 93 ∷ []) ≡ 0 ∷ 3 ∷ 2 ∷ 3 ∷ []
unfolding tokens_of bytes
row88 = refl

row89 : writes_by (settings (bytes "\t") (bytes "\n") (bytes " ") (bytes ": ") false) (255 ∷ 32 ∷ 97 ∷ []) ≡ 2 ∷ 0 ∷ 0 ∷ 0 ∷ 0 ∷ []
unfolding writes_by bytes
row89 = refl

row90 : shows (39 ∷ 39 ∷ 39 ∷ 92 ∷ 116 ∷ 52 ∷ 195 ∷ 169 ∷ 92 ∷ 47 ∷ 92 ∷ 116 ∷ 34 ∷ 39 ∷ 39 ∷ 39 ∷ []) ≡ 0 ∷ (92 ∷ 116 ∷ 52 ∷ 195 ∷ 169 ∷ 92 ∷ 47 ∷ 92 ∷ 116 ∷ 34 ∷ [])
unfolding shows bytes
row90 = refl

row91 : ident (152 ∷ 97 ∷ []) ≡ 0 ∷ 0 ∷ []
unfolding ident bytes
row91 = refl

row92 : tokens_of (bytes " 1'/") ≡ 0 ∷ 11 ∷ 1 ∷ 2 ∷ 0 ∷ 2 ∷ 3 ∷ 0 ∷ 3 ∷ 4 ∷ []
unfolding tokens_of bytes
row92 = refl

row93 : shows (bytes "'''\\\\'''") ≡ 0 ∷ (bytes "\\\\")
unfolding shows bytes
row93 = refl

row94 : ident (bytes "") ≡ 0 ∷ 0 ∷ []
unfolding ident bytes
row94 = refl

row95 : tokens_of (34 ∷ 228 ∷ 184 ∷ 173 ∷ 195 ∷ 169 ∷ 34 ∷ 97 ∷ 32 ∷ 34 ∷ 39 ∷ 49 ∷ 39 ∷ 32 ∷ 34 ∷ 9 ∷ []) ≡ 0 ∷ 12 ∷ 0 ∷ 7 ∷ 10 ∷ 7 ∷ 8 ∷ 12 ∷ 9 ∷ 15 ∷ []
unfolding tokens_of bytes
row95 = refl

row96 : writes_by (settings (bytes "\t") (bytes "\n") (bytes " ") (bytes ": ") false) (12 ∷ 9 ∷ []) ≡ 0 ∷ (bytes "")
unfolding writes_by bytes
row96 = refl

row97 : writes_by (settings (bytes "\t") (bytes "\n") (bytes " ") (bytes ": ") false) (32 ∷ 32 ∷ 47 ∷ 47 ∷ 10 ∷ 47 ∷ 47 ∷ 32 ∷ 97 ∷ 32 ∷ 47 ∷ 47 ∷ 32 ∷ 98 ∷ 10 ∷ 10 ∷ 108 ∷ 10 ∷ 110 ∷ 117 ∷ 108 ∷ 91 ∷ 44 ∷ 32 ∷ 32 ∷ 10 ∷ 9 ∷ 117 ∷ 108 ∷ 108 ∷ 10 ∷ 9 ∷ 44 ∷ 10 ∷ 9 ∷ 121 ∷ 101 ∷ 114 ∷ 115 ∷ 32 ∷ 32 ∷ 32 ∷ 10 ∷ 47 ∷ 47 ∷ 32 ∷ 39 ∷ 39 ∷ 39 ∷ 34 ∷ 34 ∷ 34 ∷ 92 ∷ 10 ∷ 10 ∷ 93 ∷ 32 ∷ 47 ∷ 47 ∷ 32 ∷ 108 ∷ 111 ∷ 115 ∷ 116 ∷ 10 ∷ 10 ∷ 44 ∷ 32 ∷ 47 ∷ 47 ∷ 13 ∷ 10 ∷ 32 ∷ 47 ∷ 47 ∷ 47 ∷ 10 ∷ 32 ∷ 32 ∷ []) ≡ 10 ∷ 22 ∷ 23 ∷ 0 ∷ 0 ∷ []
unfolding writes_by bytes
row97 = refl

row98 : writes_by (settings (bytes "\t") (bytes "\n") (bytes " ") (bytes ": ") false) (bytes "  ") ≡ 0 ∷ (bytes "")
unfolding writes_by bytes
row98 = refl

row99 : reads (32 ∷ 10 ∷ 32 ∷ 10 ∷ 13 ∷ 10 ∷ 47 ∷ 47 ∷ 9 ∷ 12 ∷ 120 ∷ 13 ∷ 10 ∷ 10 ∷ 91 ∷ 32 ∷ 123 ∷ 32 ∷ 125 ∷ 9 ∷ 32 ∷ 10 ∷ 32 ∷ 10 ∷ 93 ∷ 9 ∷ 10 ∷ 32 ∷ 10 ∷ 32 ∷ 10 ∷ 47 ∷ 47 ∷ 93 ∷ 10 ∷ 9 ∷ []) ≡ 0 ∷ 7 ∷ 6 ∷ 12 ∷ 12 ∷ 1 ∷ 4 ∷ 14 ∷ 25 ∷ 25 ∷ 2 ∷ 5 ∷ 16 ∷ 19 ∷ 19 ∷ 1 ∷ []
unfolding reads bytes
row99 = refl

row100 : ident (bytes "atrueZfalse") ≡ 0 ∷ 1 ∷ []
unfolding ident bytes
row100 = refl

row101 : reads (bytes " \n\tplayers : +inf   _\n\t: 2\n\t false  :[-1 \n0 \n\t+inf\n 0x1F  -1 .5\n ]") ≡ 0 ∷ 5 ∷ 0 ∷ 66 ∷ 66 ∷ 13 ∷ 1 ∷ 3 ∷ 10 ∷ 10 ∷ 1 ∷ 2 ∷ 13 ∷ 17 ∷ 17 ∷ 1 ∷ 1 ∷ 20 ∷ 21 ∷ 21 ∷ 1 ∷ 2 ∷ 25 ∷ 26 ∷ 26 ∷ 1 ∷ 1 ∷ 29 ∷ 34 ∷ 34 ∷ 1 ∷ 4 ∷ 37 ∷ 66 ∷ 66 ∷ 7 ∷ 2 ∷ 38 ∷ 40 ∷ 40 ∷ 1 ∷ 2 ∷ 42 ∷ 43 ∷ 43 ∷ 1 ∷ 2 ∷ 46 ∷ 50 ∷ 50 ∷ 1 ∷ 2 ∷ 52 ∷ 56 ∷ 56 ∷ 1 ∷ 2 ∷ 58 ∷ 60 ∷ 60 ∷ 1 ∷ 2 ∷ 61 ∷ 63 ∷ 63 ∷ 1 ∷ []
unfolding reads bytes
row101 = refl

row102 : tokens_of (bytes "") ≡ 0 ∷ []
unfolding tokens_of bytes
row102 = refl

row103 : writes_by (settings (bytes "\t") (bytes "\n") (bytes " ") (bytes ": ") false) (bytes "\\") ≡ 3 ∷ 0 ∷ 1 ∷ 0 ∷ 0 ∷ []
unfolding writes_by bytes
row103 = refl

row104 : writes_by (settings (bytes "\t") (bytes "\n") (bytes " ") (bytes ": ") false) (bytes "\n") ≡ 0 ∷ (bytes "")
unfolding writes_by bytes
row104 = refl

row105 : writes_by (settings (bytes "\t") (bytes "\n") (bytes " ") (bytes ": ") false) (bytes "  ") ≡ 0 ∷ (bytes "")
unfolding writes_by bytes
row105 = refl

row106 : writes_by (settings (bytes "\t") (bytes "\n// ") (13 ∷ 10 ∷ []) (bytes ": ") false) (bytes "{a:1}//s") ≡ 0 ∷ (bytes "a: 1\n//  //s")
unfolding writes_by bytes
row106 = refl

row107 : reads (41 ∷ 10 ∷ 98 ∷ 12 ∷ 91 ∷ 39 ∷ 39 ∷ 39 ∷ 39 ∷ 39 ∷ 120 ∷ 9 ∷ 47 ∷ 47 ∷ 72 ∷ 97 ∷ 108 ∷ 102 ∷ 195 ∷ 169 ∷ 39 ∷ 39 ∷ 39 ∷ 10 ∷ 47 ∷ 47 ∷ 32 ∷ 34 ∷ 91 ∷ 123 ∷ 40 ∷ 39 ∷ 10 ∷ 13 ∷ 47 ∷ 47 ∷ 226 ∷ 128 ∷ 168 ∷ 194 ∷ 133 ∷ []) ≡ 13 ∷ 0 ∷ 1 ∷ 0 ∷ 0 ∷ []
unfolding reads bytes
row107 = refl

row108 : ident (97 ∷ 236 ∷ []) ≡ 0 ∷ 0 ∷ []
unfolding ident bytes
row108 = refl

row109 : reads (32 ∷ 82 ∷ 111 ∷ 117 ∷ 110 ∷ 100 ∷ 95 ∷ 51 ∷ 10 ∷ 58 ∷ 82 ∷ 111 ∷ 117 ∷ 110 ∷ 100 ∷ 95 ∷ 51 ∷ 12 ∷ 13 ∷ 84 ∷ 114 ∷ 117 ∷ 101 ∷ 13 ∷ 10 ∷ 58 ∷ 10 ∷ 13 ∷ 10 ∷ 39 ∷ 39 ∷ 39 ∷ 120 ∷ 120 ∷ 120 ∷ 120 ∷ 120 ∷ 120 ∷ 120 ∷ 120 ∷ 120 ∷ 120 ∷ 39 ∷ 39 ∷ 39 ∷ 10 ∷ 43 ∷ 12 ∷ 58 ∷ 48 ∷ 12 ∷ 44 ∷ 13 ∷ 10 ∷ 10 ∷ 13 ∷ 10 ∷ 107 ∷ 101 ∷ 121 ∷ 13 ∷ 58 ∷ 10 ∷ 13 ∷ 10 ∷ 123 ∷ 125 ∷ []) ≡ 0 ∷ 5 ∷ 0 ∷ 67 ∷ 67 ∷ 9 ∷ 1 ∷ 1 ∷ 8 ∷ 8 ∷ 1 ∷ 1 ∷ 10 ∷ 17 ∷ 17 ∷ 1 ∷ 1 ∷ 19 ∷ 23 ∷ 23 ∷ 1 ∷ 3 ∷ 29 ∷ 45 ∷ 45 ∷ 1 ∷ 2 ∷ 46 ∷ 47 ∷ 47 ∷ 1 ∷ 2 ∷ 49 ∷ 50 ∷ 50 ∷ 1 ∷ 1 ∷ 57 ∷ 60 ∷ 60 ∷ 1 ∷ 5 ∷ 65 ∷ 67 ∷ 67 ∷ 1 ∷ []
unfolding reads bytes
row109 = refl

row110 : tokens_of (bytes ":,/)") ≡ 0 ∷ 8 ∷ 0 ∷ 1 ∷ 9 ∷ 1 ∷ 2 ∷ 0 ∷ 2 ∷ 3 ∷ 7 ∷ 3 ∷ 4 ∷ []
unfolding tokens_of bytes
row110 = refl

row111 : writes_by (settings (bytes "\t") (bytes "\n") (bytes " ") (bytes ": ") false) (bytes "") ≡ 0 ∷ (bytes "")
unfolding writes_by bytes
row111 = refl

row112 : writes_by (settings (bytes "\t") (bytes "\n") (bytes " ") (bytes ": ") false) (bytes "  [ key\n\tfalse  true\n\t,   ] ") ≡ 0 ∷ (bytes "[key, false, true]")
unfolding writes_by bytes
row112 = refl

row113 : writes_by (settings (bytes "\t") (bytes "\n") (bytes " ") (bytes ": ") false) (10 ∷ 9 ∷ 10 ∷ 34 ∷ 120 ∷ 237 ∷ 160 ∷ 128 ∷ 120 ∷ 120 ∷ 120 ∷ 120 ∷ 120 ∷ 120 ∷ 120 ∷ 120 ∷ 120 ∷ 120 ∷ 34 ∷ 32 ∷ 44 ∷ 32 ∷ 32 ∷ 32 ∷ []) ≡ 2 ∷ 5 ∷ 5 ∷ 0 ∷ 0 ∷ []
unfolding writes_by bytes
row113 = refl

row114 : writes_by (settings (bytes "\t") (bytes "\n") (bytes " ") (bytes ": ") false) (57 ∷ 97 ∷ 95 ∷ 98 ∷ 10 ∷ 34 ∷ 92 ∷ 117 ∷ 123 ∷ 52 ∷ 49 ∷ 125 ∷ 47 ∷ 47 ∷ 92 ∷ 195 ∷ 169 ∷ 9 ∷ 34 ∷ 34 ∷ 92 ∷ 34 ∷ 92 ∷ 117 ∷ 123 ∷ 52 ∷ 49 ∷ 125 ∷ 228 ∷ 184 ∷ 173 ∷ 92 ∷ 113 ∷ 92 ∷ 117 ∷ 123 ∷ 52 ∷ 49 ∷ 125 ∷ 34 ∷ 13 ∷ 47 ∷ 47 ∷ 39 ∷ 39 ∷ 39 ∷ 120 ∷ 39 ∷ 39 ∷ 39 ∷ 47 ∷ 39 ∷ 240 ∷ 159 ∷ 152 ∷ 128 ∷ 49 ∷ 47 ∷ 47 ∷ 47 ∷ 47 ∷ 125 ∷ 39 ∷ 107 ∷ 58 ∷ 32 ∷ 49 ∷ 39 ∷ 39 ∷ 39 ∷ 92 ∷ 10 ∷ 44 ∷ 9 ∷ []) ≡ 0 ∷ (91 ∷ 57 ∷ 97 ∷ 95 ∷ 98 ∷ 44 ∷ 32 ∷ 34 ∷ 92 ∷ 117 ∷ 123 ∷ 52 ∷ 49 ∷ 125 ∷ 47 ∷ 47 ∷ 92 ∷ 195 ∷ 169 ∷ 9 ∷ 34 ∷ 44 ∷ 32 ∷ 34 ∷ 92 ∷ 34 ∷ 92 ∷ 117 ∷ 123 ∷ 52 ∷ 49 ∷ 125 ∷ 228 ∷ 184 ∷ 173 ∷ 92 ∷ 113 ∷ 92 ∷ 117 ∷ 123 ∷ 52 ∷ 49 ∷ 125 ∷ 34 ∷ 93 ∷ [])
unfolding writes_by bytes
row114 = refl

row115 : reads (47 ∷ 47 ∷ 13 ∷ 34 ∷ 34 ∷ 34 ∷ 10 ∷ 32 ∷ []) ≡ 0 ∷ 5 ∷ 0 ∷ 8 ∷ 8 ∷ 2 ∷ 9 ∷ 0 ∷ 6 ∷ 6 ∷ 1 ∷ []
unfolding reads bytes
row115 = refl

row116 : reads (10 ∷ 39 ∷ 93 ∷ 39 ∷ 39 ∷ 10 ∷ 13 ∷ 10 ∷ []) ≡ 3 ∷ 4 ∷ 5 ∷ 0 ∷ 0 ∷ []
unfolding reads bytes
row116 = refl

row117 : shows (34 ∷ 125 ∷ 92 ∷ 110 ∷ 10 ∷ 240 ∷ 159 ∷ 152 ∷ 128 ∷ 34 ∷ []) ≡ 19 ∷ 0 ∷ 0 ∷ 0 ∷ 0 ∷ []
unfolding shows bytes
row117 = refl

row118 : shows (bytes "\"\"\"''\"\"\"") ≡ 0 ∷ (bytes "''")
unfolding shows bytes
row118 = refl

row119 : shows (bytes "'''\\u{0_0_0_0_0_0_0_0_x}'''") ≡ 0 ∷ (bytes "\\u{0_0_0_0_0_0_0_0_x}")
unfolding shows bytes
row119 = refl

row120 : reads (32 ∷ 32 ∷ 10 ∷ 47 ∷ 47 ∷ 226 ∷ 128 ∷ 168 ∷ 194 ∷ 133 ∷ 10 ∷ 32 ∷ 32 ∷ 82 ∷ 111 ∷ 117 ∷ 110 ∷ 100 ∷ 95 ∷ 51 ∷ 44 ∷ 32 ∷ 47 ∷ 47 ∷ 9 ∷ 12 ∷ 120 ∷ 13 ∷ 10 ∷ 32 ∷ []) ≡ 0 ∷ 7 ∷ 3 ∷ 10 ∷ 10 ∷ 1 ∷ 1 ∷ 13 ∷ 20 ∷ 20 ∷ 1 ∷ 8 ∷ 22 ∷ 28 ∷ 28 ∷ 1 ∷ []
unfolding reads bytes
row120 = refl

row121 : tokens_of (bytes "]\",}") ≡ 0 ∷ 3 ∷ 0 ∷ 1 ∷ 0 ∷ 1 ∷ 2 ∷ 9 ∷ 2 ∷ 3 ∷ 5 ∷ 3 ∷ 4 ∷ []
unfolding tokens_of bytes
row121 = refl

row122 : writes_by (settings (bytes "\t") (bytes "\n") (bytes " ") (bytes ": ") false) (102 ∷ 97 ∷ 108 ∷ 115 ∷ 101 ∷ 45 ∷ 58 ∷ 32 ∷ 49 ∷ 95 ∷ 48 ∷ 48 ∷ 48 ∷ 125 ∷ 13 ∷ []) ≡ 10 ∷ 6 ∷ 7 ∷ 0 ∷ 0 ∷ []
unfolding writes_by bytes
row122 = refl

row123 : reads (39 ∷ 39 ∷ 39 ∷ 120 ∷ 195 ∷ 169 ∷ 240 ∷ 159 ∷ 152 ∷ 128 ∷ 39 ∷ 39 ∷ 39 ∷ 9 ∷ 123 ∷ 13 ∷ 91 ∷ 107 ∷ 101 ∷ 121 ∷ 34 ∷ 65 ∷ 34 ∷ 40 ∷ 93 ∷ 13 ∷ 91 ∷ 125 ∷ []) ≡ 11 ∷ 24 ∷ 25 ∷ 7 ∷ 3 ∷ []
unfolding reads bytes
row123 = refl

row124 : tokens_of (bytes "\\#\\,") ≡ 0 ∷ 0 ∷ 0 ∷ 1 ∷ 0 ∷ 1 ∷ 2 ∷ 0 ∷ 2 ∷ 3 ∷ 9 ∷ 3 ∷ 4 ∷ []
unfolding tokens_of bytes
row124 = refl

row125 : reads (bytes "-  ,\n\t ") ≡ 0 ∷ 2 ∷ 0 ∷ 1 ∷ 1 ∷ 1 ∷ []
unfolding reads bytes
row125 = refl

row126 : reads (bytes "]") ≡ 13 ∷ 0 ∷ 1 ∷ 0 ∷ 0 ∷ []
unfolding reads bytes
row126 = refl

row127 : reads (bytes "-inf, \"\" (false Round_3 nul,a, x1 )") ≡ 0 ∷ 4 ∷ 0 ∷ 35 ∷ 35 ∷ 8 ∷ 2 ∷ 0 ∷ 4 ∷ 4 ∷ 1 ∷ 6 ∷ 6 ∷ 8 ∷ 35 ∷ 6 ∷ 1 ∷ 10 ∷ 15 ∷ 15 ∷ 1 ∷ 1 ∷ 16 ∷ 23 ∷ 23 ∷ 1 ∷ 1 ∷ 24 ∷ 27 ∷ 27 ∷ 1 ∷ 1 ∷ 28 ∷ 29 ∷ 29 ∷ 1 ∷ 1 ∷ 31 ∷ 33 ∷ 33 ∷ 1 ∷ []
unfolding reads bytes
row127 = refl

row128 : writes_by (settings (bytes "\t") (bytes "\n") (bytes " ") (bytes ": ") false) (91 ∷ 34 ∷ 34 ∷ 40 ∷ 91 ∷ 32 ∷ 93 ∷ 91 ∷ 93 ∷ 44 ∷ 92 ∷ 32 ∷ 39 ∷ 9 ∷ 240 ∷ 159 ∷ 152 ∷ 128 ∷ 120 ∷ 34 ∷ 224 ∷ 34 ∷ 34 ∷ 39 ∷ 44 ∷ 32 ∷ 41 ∷ 93 ∷ []) ≡ 2 ∷ 20 ∷ 20 ∷ 0 ∷ 0 ∷ []
unfolding writes_by bytes
row128 = refl

row129 : shows (bytes "'a\\''") ≡ 0 ∷ (bytes "a\\'")
unfolding shows bytes
row129 = refl

row130 : reads (bytes ",\n'/") ≡ 10 ∷ 0 ∷ 1 ∷ 0 ∷ 0 ∷ []
unfolding reads bytes
row130 = refl

row131 : reads (35 ∷ 13 ∷ 91 ∷ 92 ∷ []) ≡ 3 ∷ 0 ∷ 1 ∷ 0 ∷ 0 ∷ []
unfolding reads bytes
row131 = refl

row132 : reads (10 ∷ 13 ∷ 110 ∷ 117 ∷ 108 ∷ 9 ∷ 58 ∷ 98 ∷ 13 ∷ 10 ∷ 13 ∷ []) ≡ 0 ∷ 5 ∷ 0 ∷ 11 ∷ 11 ∷ 3 ∷ 1 ∷ 2 ∷ 5 ∷ 5 ∷ 1 ∷ 1 ∷ 7 ∷ 8 ∷ 8 ∷ 1 ∷ []
unfolding reads bytes
row132 = refl

row133 : tokens_of (bytes "[:}}") ≡ 0 ∷ 2 ∷ 0 ∷ 1 ∷ 8 ∷ 1 ∷ 2 ∷ 5 ∷ 2 ∷ 3 ∷ 5 ∷ 3 ∷ 4 ∷ []
unfolding tokens_of bytes
row133 = refl

row134 : reads (bytes "}{ }") ≡ 13 ∷ 0 ∷ 1 ∷ 0 ∷ 0 ∷ []
unfolding reads bytes
row134 = refl

row135 : writes_by (settings (bytes "\t") (bytes "\n") (bytes " ") (bytes ": ") false) (39 ∷ 39 ∷ 39 ∷ 125 ∷ 39 ∷ 39 ∷ 39 ∷ 13 ∷ 49 ∷ 46 ∷ 53 ∷ 101 ∷ 45 ∷ 51 ∷ 12 ∷ 34 ∷ 34 ∷ 34 ∷ 44 ∷ 34 ∷ 34 ∷ 34 ∷ 49 ∷ 12 ∷ 47 ∷ 47 ∷ 32 ∷ 39 ∷ 39 ∷ 39 ∷ 34 ∷ 34 ∷ 34 ∷ 92 ∷ 13 ∷ 41 ∷ 13 ∷ 97 ∷ 58 ∷ 12 ∷ 45 ∷ []) ≡ 0 ∷ (91 ∷ 10 ∷ 9 ∷ 39 ∷ 39 ∷ 39 ∷ 125 ∷ 39 ∷ 39 ∷ 39 ∷ 10 ∷ 9 ∷ 49 ∷ 46 ∷ 53 ∷ 101 ∷ 45 ∷ 51 ∷ 10 ∷ 9 ∷ 34 ∷ 34 ∷ 34 ∷ 44 ∷ 34 ∷ 34 ∷ 34 ∷ 10 ∷ 9 ∷ 49 ∷ 32 ∷ 47 ∷ 47 ∷ 32 ∷ 39 ∷ 39 ∷ 39 ∷ 34 ∷ 34 ∷ 34 ∷ 92 ∷ 13 ∷ 41 ∷ 13 ∷ 97 ∷ 58 ∷ 12 ∷ 45 ∷ 10 ∷ 93 ∷ [])
unfolding writes_by bytes
row135 = refl

row136 : reads (39 ∷ 39 ∷ 39 ∷ 125 ∷ 72 ∷ 97 ∷ 108 ∷ 102 ∷ 39 ∷ 39 ∷ 39 ∷ 32 ∷ 39 ∷ 92 ∷ 195 ∷ 169 ∷ 39 ∷ 12 ∷ 97 ∷ 58 ∷ 13 ∷ []) ≡ 10 ∷ 19 ∷ 20 ∷ 0 ∷ 0 ∷ []
unfolding reads bytes
row136 = refl

row137 : shows (bytes "'''\\  _\\`{'''") ≡ 0 ∷ (bytes "\\  _\\`{")
unfolding shows bytes
row137 = refl

row138 : shows (bytes "'''4'''") ≡ 0 ∷ (bytes "4")
unfolding shows bytes
row138 = refl

row139 : reads (84 ∷ 114 ∷ 117 ∷ 101 ∷ 34 ∷ 34 ∷ 34 ∷ 72 ∷ 97 ∷ 108 ∷ 102 ∷ 91 ∷ 195 ∷ 169 ∷ 49 ∷ 97 ∷ 34 ∷ 34 ∷ 34 ∷ 10 ∷ 34 ∷ 228 ∷ 184 ∷ 173 ∷ 32 ∷ 34 ∷ 82 ∷ 111 ∷ 117 ∷ 110 ∷ 100 ∷ 95 ∷ 51 ∷ 46 ∷ 53 ∷ 40 ∷ 12 ∷ 91 ∷ 39 ∷ 34 ∷ 34 ∷ 34 ∷ 195 ∷ 169 ∷ 39 ∷ 13 ∷ 41 ∷ 9 ∷ 110 ∷ 117 ∷ 108 ∷ 13 ∷ 107 ∷ 58 ∷ 32 ∷ 49 ∷ 91 ∷ 9 ∷ 58 ∷ 9 ∷ []) ≡ 9 ∷ 35 ∷ 36 ∷ 0 ∷ 0 ∷ []
unfolding reads bytes
row139 = refl

row140 : reads (47 ∷ 47 ∷ 226 ∷ 128 ∷ 168 ∷ 194 ∷ 133 ∷ 10 ∷ 10 ∷ 95 ∷ 13 ∷ 34 ∷ 32 ∷ 34 ∷ 32 ∷ 34 ∷ 34 ∷ 13 ∷ 116 ∷ 114 ∷ 117 ∷ 101 ∷ 13 ∷ 49 ∷ 95 ∷ 48 ∷ 48 ∷ 48 ∷ 39 ∷ 39 ∷ 39 ∷ 120 ∷ 39 ∷ 39 ∷ 39 ∷ 49 ∷ 32 ∷ 34 ∷ 228 ∷ 184 ∷ 173 ∷ 125 ∷ 195 ∷ 169 ∷ 49 ∷ 97 ∷ 34 ∷ 12 ∷ 34 ∷ 34 ∷ 10 ∷ 39 ∷ 39 ∷ 9 ∷ 47 ∷ 47 ∷ 32 ∷ 47 ∷ 47 ∷ 226 ∷ 128 ∷ 168 ∷ 194 ∷ 133 ∷ 10 ∷ []) ≡ 0 ∷ 4 ∷ 0 ∷ 65 ∷ 65 ∷ 13 ∷ 7 ∷ 0 ∷ 7 ∷ 7 ∷ 1 ∷ 1 ∷ 9 ∷ 10 ∷ 10 ∷ 1 ∷ 3 ∷ 11 ∷ 14 ∷ 14 ∷ 1 ∷ 3 ∷ 15 ∷ 17 ∷ 17 ∷ 1 ∷ 1 ∷ 18 ∷ 22 ∷ 22 ∷ 1 ∷ 2 ∷ 23 ∷ 28 ∷ 28 ∷ 1 ∷ 3 ∷ 28 ∷ 35 ∷ 35 ∷ 1 ∷ 2 ∷ 35 ∷ 36 ∷ 36 ∷ 1 ∷ 3 ∷ 37 ∷ 47 ∷ 47 ∷ 1 ∷ 3 ∷ 48 ∷ 50 ∷ 50 ∷ 1 ∷ 3 ∷ 51 ∷ 53 ∷ 53 ∷ 1 ∷ 8 ∷ 54 ∷ 64 ∷ 64 ∷ 1 ∷ []
unfolding reads bytes
row140 = refl

row141 : shows (34 ∷ 34 ∷ 34 ∷ 240 ∷ 159 ∷ 152 ∷ 128 ∷ 34 ∷ 34 ∷ 34 ∷ []) ≡ 0 ∷ (240 ∷ 159 ∷ 152 ∷ 128 ∷ [])
unfolding shows bytes
row141 = refl

row142 : tokens_of (39 ∷ 39 ∷ 39 ∷ 13 ∷ 97 ∷ 58 ∷ 32 ∷ 49 ∷ 10 ∷ 45 ∷ 105 ∷ 110 ∷ 102 ∷ 12 ∷ []) ≡ 0 ∷ 13 ∷ 0 ∷ 2 ∷ 0 ∷ 2 ∷ 3 ∷ 10 ∷ 4 ∷ 5 ∷ 8 ∷ 5 ∷ 6 ∷ 11 ∷ 7 ∷ 8 ∷ 11 ∷ 9 ∷ 13 ∷ []
unfolding tokens_of bytes
row142 = refl

row143 : reads (bytes "key :\"\"\"Half }\\\n\"\"\" _ :{2}:\"\",nul:\"\", }true :\"[//\t  Round_3:.5 ") ≡ 11 ∷ 25 ∷ 26 ∷ 8 ∷ 5 ∷ []
unfolding reads bytes
row143 = refl

row144 : writes_by (settings (bytes "\t") (bytes "\n") (bytes " ") (bytes ": ") false) (9 ∷ 10 ∷ 107 ∷ 101 ∷ 121 ∷ 32 ∷ 10 ∷ 32 ∷ 10 ∷ 58 ∷ 10 ∷ 13 ∷ 10 ∷ 120 ∷ 49 ∷ 44 ∷ 9 ∷ 47 ∷ 47 ∷ 32 ∷ 108 ∷ 105 ∷ 118 ∷ 101 ∷ 10 ∷ 10 ∷ 9 ∷ 102 ∷ 97 ∷ 108 ∷ 115 ∷ 101 ∷ 9 ∷ 58 ∷ 13 ∷ 10 ∷ 102 ∷ 97 ∷ 108 ∷ 115 ∷ 101 ∷ 10 ∷ 44 ∷ []) ≡ 0 ∷ (bytes "key: x1 // live\nfalse: false\n")
unfolding writes_by bytes
row144 = refl

row145 : shows (bytes "'''\"'''") ≡ 0 ∷ (bytes "\"")
unfolding shows bytes
row145 = refl

row146 : reads (34 ∷ 92 ∷ 34 ∷ 92 ∷ 117 ∷ 123 ∷ 52 ∷ 49 ∷ 125 ∷ 92 ∷ 113 ∷ 34 ∷ 9 ∷ 58 ∷ 32 ∷ 34 ∷ 39 ∷ 34 ∷ 12 ∷ 91 ∷ 125 ∷ 9 ∷ 44 ∷ 32 ∷ 82 ∷ 111 ∷ 117 ∷ 110 ∷ 100 ∷ 95 ∷ 51 ∷ 34 ∷ 195 ∷ 169 ∷ 240 ∷ 159 ∷ 152 ∷ 128 ∷ 240 ∷ 159 ∷ 152 ∷ 128 ∷ 34 ∷ 32 ∷ []) ≡ 11 ∷ 20 ∷ 21 ∷ 3 ∷ 5 ∷ []
unfolding reads bytes
row146 = refl

row147 : reads (91 ∷ 9 ∷ 123 ∷ 13 ∷ 34 ∷ 97 ∷ 34 ∷ 102 ∷ 97 ∷ 108 ∷ 115 ∷ 101 ∷ 12 ∷ []) ≡ 11 ∷ 7 ∷ 12 ∷ 8 ∷ 10 ∷ []
unfolding reads bytes
row147 = refl

row148 : tokens_of (bytes "  \nx1  :\n\t'a'\n\t(\n\t\"\"    )   ") ≡ 0 ∷ 10 ∷ 3 ∷ 5 ∷ 8 ∷ 7 ∷ 8 ∷ 13 ∷ 10 ∷ 13 ∷ 6 ∷ 15 ∷ 16 ∷ 12 ∷ 18 ∷ 20 ∷ 7 ∷ 24 ∷ 25 ∷ []
unfolding tokens_of bytes
row148 = refl

row149 : reads (bytes "") ≡ 0 ∷ 5 ∷ 0 ∷ 0 ∷ 0 ∷ 1 ∷ []
unfolding reads bytes
row149 = refl

row150 : reads (93 ∷ 32 ∷ 39 ∷ 115 ∷ 39 ∷ 9 ∷ 49 ∷ 34 ∷ 34 ∷ 34 ∷ 44 ∷ 34 ∷ 125 ∷ 34 ∷ 13 ∷ 39 ∷ 9 ∷ 34 ∷ 34 ∷ 12 ∷ []) ≡ 13 ∷ 0 ∷ 1 ∷ 0 ∷ 0 ∷ []
unfolding reads bytes
row150 = refl

row151 : ident (bytes "Zafalse__") ≡ 0 ∷ 1 ∷ []
unfolding ident bytes
row151 = refl

row152 : writes_by (settings (bytes "\t") (bytes "\n") (bytes " ") (bytes ": ") false) (34 ∷ 34 ∷ 34 ∷ 120 ∷ 34 ∷ 34 ∷ 34 ∷ 9 ∷ 34 ∷ 120 ∷ 92 ∷ 110 ∷ 34 ∷ 41 ∷ 34 ∷ 47 ∷ 47 ∷ 91 ∷ 32 ∷ 34 ∷ 47 ∷ 47 ∷ 13 ∷ 112 ∷ 108 ∷ 97 ∷ 121 ∷ 101 ∷ 114 ∷ 115 ∷ 32 ∷ 35 ∷ 97 ∷ 58 ∷ 10 ∷ 194 ∷ 160 ∷ 9 ∷ 11 ∷ 49 ∷ 44 ∷ 9 ∷ 39 ∷ 39 ∷ 39 ∷ 34 ∷ 34 ∷ 34 ∷ 9 ∷ 39 ∷ 39 ∷ 39 ∷ []) ≡ 13 ∷ 13 ∷ 14 ∷ 0 ∷ 0 ∷ []
unfolding writes_by bytes
row152 = refl

row153 : writes_by (settings (bytes "\t") (bytes "\n") (bytes " ") (bytes ": ") false) (13 ∷ 10 ∷ []) ≡ 0 ∷ (bytes "")
unfolding writes_by bytes
row153 = refl

row154 : reads (12 ∷ 12 ∷ 39 ∷ 39 ∷ 39 ∷ 120 ∷ 120 ∷ 120 ∷ 120 ∷ 120 ∷ 120 ∷ 120 ∷ 120 ∷ 120 ∷ 120 ∷ 120 ∷ 120 ∷ 120 ∷ 120 ∷ 120 ∷ 120 ∷ 120 ∷ 120 ∷ 120 ∷ 120 ∷ 120 ∷ 120 ∷ 120 ∷ 120 ∷ 120 ∷ 120 ∷ 120 ∷ 120 ∷ 120 ∷ 120 ∷ 120 ∷ 39 ∷ 39 ∷ 39 ∷ 9 ∷ 84 ∷ 114 ∷ 117 ∷ 101 ∷ 13 ∷ 44 ∷ 12 ∷ 32 ∷ 91 ∷ 93 ∷ 44 ∷ 13 ∷ 10 ∷ 123 ∷ 12 ∷ 125 ∷ 9 ∷ 44 ∷ 32 ∷ 10 ∷ 32 ∷ 10 ∷ 13 ∷ 10 ∷ []) ≡ 0 ∷ 4 ∷ 0 ∷ 64 ∷ 64 ∷ 5 ∷ 3 ∷ 2 ∷ 39 ∷ 39 ∷ 1 ∷ 1 ∷ 40 ∷ 44 ∷ 44 ∷ 1 ∷ 4 ∷ 48 ∷ 50 ∷ 50 ∷ 1 ∷ 5 ∷ 53 ∷ 56 ∷ 56 ∷ 1 ∷ []
unfolding reads bytes
row154 = refl

row155 : writes_by (settings (bytes "\t") (bytes "\n") (bytes " ") (bytes ": ") false) (239 ∷ 187 ∷ 191 ∷ 12 ∷ 34 ∷ 34 ∷ 34 ∷ 120 ∷ 34 ∷ 34 ∷ 34 ∷ 226 ∷ 128 ∷ 168 ∷ 13 ∷ 123 ∷ 13 ∷ 110 ∷ 117 ∷ 108 ∷ 97 ∷ 58 ∷ 32 ∷ 49 ∷ 10 ∷ 34 ∷ 115 ∷ 34 ∷ 12 ∷ 91 ∷ 13 ∷ 47 ∷ 47 ∷ 32 ∷ 99 ∷ 10 ∷ 13 ∷ 110 ∷ 117 ∷ 108 ∷ 40 ∷ 11 ∷ 9 ∷ 39 ∷ 39 ∷ 39 ∷ 39 ∷ 39 ∷ 39 ∷ 13 ∷ 34 ∷ 115 ∷ 34 ∷ 12 ∷ []) ≡ 3 ∷ 0 ∷ 3 ∷ 0 ∷ 0 ∷ []
unfolding writes_by bytes
row155 = refl

row156 : writes_by (settings (bytes "\t") (bytes "\n") (bytes " ") (bytes ": ") false) (32 ∷ 116 ∷ 114 ∷ 117 ∷ 101 ∷ 58 ∷ 45 ∷ 105 ∷ 110 ∷ 102 ∷ 44 ∷ 10 ∷ 47 ∷ 47 ∷ 47 ∷ 10 ∷ 32 ∷ 112 ∷ 108 ∷ 97 ∷ 121 ∷ 101 ∷ 114 ∷ 115 ∷ 58 ∷ 32 ∷ 49 ∷ 46 ∷ 46 ∷ 50 ∷ 32 ∷ 44 ∷ 47 ∷ 47 ∷ 10 ∷ 32 ∷ 47 ∷ 47 ∷ 13 ∷ 10 ∷ 95 ∷ 58 ∷ 39 ∷ 39 ∷ 39 ∷ 97 ∷ 120 ∷ 39 ∷ 39 ∷ 39 ∷ 47 ∷ 47 ∷ 32 ∷ 34 ∷ 91 ∷ 123 ∷ 40 ∷ 39 ∷ 10 ∷ 32 ∷ []) ≡ 0 ∷ (116 ∷ 114 ∷ 117 ∷ 101 ∷ 58 ∷ 32 ∷ 45 ∷ 105 ∷ 110 ∷ 102 ∷ 10 ∷ 10 ∷ 47 ∷ 47 ∷ 47 ∷ 10 ∷ 112 ∷ 108 ∷ 97 ∷ 121 ∷ 101 ∷ 114 ∷ 115 ∷ 58 ∷ 32 ∷ 49 ∷ 46 ∷ 46 ∷ 50 ∷ 32 ∷ 47 ∷ 47 ∷ 10 ∷ 10 ∷ 47 ∷ 47 ∷ 13 ∷ 10 ∷ 95 ∷ 58 ∷ 32 ∷ 39 ∷ 39 ∷ 39 ∷ 97 ∷ 120 ∷ 39 ∷ 39 ∷ 39 ∷ 32 ∷ 47 ∷ 47 ∷ 32 ∷ 34 ∷ 91 ∷ 123 ∷ 40 ∷ 39 ∷ 10 ∷ [])
unfolding writes_by bytes
row156 = refl

row157 : writes_by (settings (bytes "\t") (bytes "\n") (bytes " ") (bytes ": ") false) (93 ∷ 123 ∷ 32 ∷ 43 ∷ 45 ∷ 46 ∷ 34 ∷ 65 ∷ 34 ∷ 40 ∷ 13 ∷ 34 ∷ 92 ∷ 110 ∷ 92 ∷ 117 ∷ 123 ∷ 52 ∷ 49 ∷ 125 ∷ 49 ∷ 228 ∷ 184 ∷ 173 ∷ 228 ∷ 184 ∷ 173 ∷ 34 ∷ 9 ∷ 34 ∷ 34 ∷ 34 ∷ 97 ∷ 32 ∷ 120 ∷ 34 ∷ 34 ∷ 34 ∷ 32 ∷ 123 ∷ 9 ∷ 91 ∷ 9 ∷ 120 ∷ 49 ∷ 34 ∷ 32 ∷ 97 ∷ 47 ∷ 47 ∷ 125 ∷ 34 ∷ []) ≡ 13 ∷ 0 ∷ 1 ∷ 0 ∷ 0 ∷ []
unfolding writes_by bytes
row157 = refl

row158 : writes_by (settings (bytes "\t") (bytes "\n") (bytes " ") (bytes ": ") false) (bytes "") ≡ 0 ∷ (bytes "")
unfolding writes_by bytes
row158 = refl

row159 : writes_by (settings (bytes "\t") (bytes "\n") (bytes " ") (bytes ": ") false) (93 ∷ 9 ∷ 45 ∷ 9 ∷ 58 ∷ 9 ∷ 123 ∷ 40 ∷ 12 ∷ 41 ∷ 32 ∷ 97 ∷ 58 ∷ 12 ∷ 34 ∷ 65 ∷ 34 ∷ 40 ∷ 32 ∷ []) ≡ 13 ∷ 0 ∷ 1 ∷ 0 ∷ 0 ∷ []
unfolding writes_by bytes
row159 = refl

row160 : reads (110 ∷ 117 ∷ 108 ∷ 49 ∷ 13 ∷ 46 ∷ 47 ∷ 47 ∷ 47 ∷ 10 ∷ 40 ∷ 49 ∷ 44 ∷ 39 ∷ 39 ∷ 32 ∷ 34 ∷ 91 ∷ 125 ∷ 34 ∷ 10 ∷ []) ≡ 9 ∷ 10 ∷ 11 ∷ 0 ∷ 0 ∷ []
unfolding reads bytes
row160 = refl

row161 : shows (34 ∷ 34 ∷ 34 ∷ 92 ∷ 39 ∷ 240 ∷ 159 ∷ 152 ∷ 128 ∷ 13 ∷ 10 ∷ 9 ∷ 92 ∷ 32 ∷ 34 ∷ 34 ∷ 34 ∷ []) ≡ 0 ∷ (39 ∷ 240 ∷ 159 ∷ 152 ∷ 128 ∷ 10 ∷ 9 ∷ 32 ∷ [])
unfolding shows bytes
row161 = refl

row162 : writes_by (settings (bytes "    ") (bytes "\n") (bytes " ") (bytes ": ") true) (32 ∷ 10 ∷ 32 ∷ 10 ∷ 13 ∷ 34 ∷ 34 ∷ 34 ∷ 195 ∷ 169 ∷ 120 ∷ 120 ∷ 120 ∷ 120 ∷ 120 ∷ 120 ∷ 120 ∷ 120 ∷ 120 ∷ 120 ∷ 120 ∷ 120 ∷ 120 ∷ 120 ∷ 120 ∷ 120 ∷ 120 ∷ 120 ∷ 120 ∷ 120 ∷ 120 ∷ 120 ∷ 120 ∷ 120 ∷ 120 ∷ 120 ∷ 120 ∷ 120 ∷ 120 ∷ 120 ∷ 120 ∷ 120 ∷ 120 ∷ 120 ∷ 120 ∷ 120 ∷ 120 ∷ 120 ∷ 120 ∷ 120 ∷ 120 ∷ 120 ∷ 120 ∷ 120 ∷ 120 ∷ 120 ∷ 120 ∷ 120 ∷ 34 ∷ 34 ∷ 34 ∷ 12 ∷ 13 ∷ 10 ∷ []) ≡ 0 ∷ (34 ∷ 34 ∷ 34 ∷ 195 ∷ 169 ∷ 120 ∷ 120 ∷ 120 ∷ 120 ∷ 120 ∷ 120 ∷ 120 ∷ 120 ∷ 120 ∷ 120 ∷ 120 ∷ 120 ∷ 120 ∷ 120 ∷ 120 ∷ 120 ∷ 120 ∷ 120 ∷ 120 ∷ 120 ∷ 120 ∷ 120 ∷ 120 ∷ 120 ∷ 120 ∷ 120 ∷ 120 ∷ 120 ∷ 120 ∷ 120 ∷ 120 ∷ 120 ∷ 120 ∷ 120 ∷ 120 ∷ 120 ∷ 120 ∷ 120 ∷ 120 ∷ 120 ∷ 120 ∷ 120 ∷ 120 ∷ 120 ∷ 120 ∷ 120 ∷ 120 ∷ 120 ∷ 34 ∷ 34 ∷ 34 ∷ [])
unfolding writes_by bytes
row162 = refl

row163 : writes_by (settings (bytes "\t") (bytes "\n") (bytes " ") (bytes ": ") false) (13 ∷ []) ≡ 0 ∷ (bytes "")
unfolding writes_by bytes
row163 = refl

row164 : reads (bytes "#]\"[") ≡ 3 ∷ 0 ∷ 1 ∷ 0 ∷ 0 ∷ []
unfolding reads bytes
row164 = refl

row165 : writes_by (settings (bytes "\t") (bytes "\n") (bytes " ") (bytes ": ") false) (9 ∷ 32 ∷ 10 ∷ 32 ∷ 10 ∷ 98 ∷ 58 ∷ 10 ∷ 57 ∷ 97 ∷ 95 ∷ 98 ∷ 32 ∷ 10 ∷ 32 ∷ 10 ∷ 13 ∷ 10 ∷ 39 ∷ 72 ∷ 97 ∷ 108 ∷ 102 ∷ 39 ∷ 13 ∷ 10 ∷ 58 ∷ 13 ∷ 10 ∷ 49 ∷ 46 ∷ 46 ∷ 50 ∷ 32 ∷ []) ≡ 0 ∷ (bytes "b: 9a_b\n'Half': 1..2\n")
unfolding writes_by bytes
row165 = refl

row166 : writes_by (settings (bytes "\t") (bytes "\n") (bytes " ") (bytes ": ") false) (32 ∷ 10 ∷ 13 ∷ 10 ∷ 123 ∷ 12 ∷ 84 ∷ 114 ∷ 117 ∷ 101 ∷ 58 ∷ 10 ∷ 46 ∷ 53 ∷ 10 ∷ 44 ∷ 10 ∷ 12 ∷ 47 ∷ 47 ∷ 32 ∷ 39 ∷ 39 ∷ 39 ∷ 34 ∷ 34 ∷ 34 ∷ 92 ∷ 10 ∷ 39 ∷ 120 ∷ 39 ∷ 12 ∷ 58 ∷ 13 ∷ 10 ∷ 43 ∷ 110 ∷ 97 ∷ 110 ∷ 10 ∷ 44 ∷ 32 ∷ 10 ∷ 125 ∷ 32 ∷ 58 ∷ 12 ∷ 47 ∷ 47 ∷ 13 ∷ 10 ∷ 10 ∷ 47 ∷ 47 ∷ 195 ∷ 169 ∷ 228 ∷ 184 ∷ 173 ∷ 240 ∷ 159 ∷ 152 ∷ 128 ∷ 10 ∷ 12 ∷ 49 ∷ 95 ∷ 48 ∷ 48 ∷ 48 ∷ 10 ∷ 32 ∷ 47 ∷ 47 ∷ 32 ∷ 99 ∷ 10 ∷ 10 ∷ []) ≡ 0 ∷ (47 ∷ 47 ∷ 13 ∷ 10 ∷ 47 ∷ 47 ∷ 195 ∷ 169 ∷ 228 ∷ 184 ∷ 173 ∷ 240 ∷ 159 ∷ 152 ∷ 128 ∷ 10 ∷ 123 ∷ 10 ∷ 9 ∷ 84 ∷ 114 ∷ 117 ∷ 101 ∷ 58 ∷ 32 ∷ 46 ∷ 53 ∷ 10 ∷ 10 ∷ 9 ∷ 47 ∷ 47 ∷ 32 ∷ 39 ∷ 39 ∷ 39 ∷ 34 ∷ 34 ∷ 34 ∷ 92 ∷ 10 ∷ 9 ∷ 39 ∷ 120 ∷ 39 ∷ 58 ∷ 32 ∷ 43 ∷ 110 ∷ 97 ∷ 110 ∷ 10 ∷ 125 ∷ 58 ∷ 32 ∷ 49 ∷ 95 ∷ 48 ∷ 48 ∷ 48 ∷ 10 ∷ 10 ∷ 47 ∷ 47 ∷ 32 ∷ 99 ∷ 10 ∷ [])
unfolding writes_by bytes
row166 = refl

row167 : writes_by (settings (bytes "\t") (bytes "\n") (bytes " ") (bytes ": ") false) (47 ∷ 47 ∷ 32 ∷ 108 ∷ 105 ∷ 118 ∷ 101 ∷ 10 ∷ 13 ∷ 34 ∷ 34 ∷ 34 ∷ 120 ∷ 34 ∷ 34 ∷ 34 ∷ 13 ∷ 34 ∷ 34 ∷ 34 ∷ 120 ∷ 34 ∷ 34 ∷ 34 ∷ 34 ∷ 34 ∷ 34 ∷ 120 ∷ 34 ∷ 34 ∷ 34 ∷ []) ≡ 0 ∷ (bytes "[\n\t// live\n\t\"\"\"x\"\"\"\n\t\"\"\"x\"\"\"\n\t\"\"\"x\"\"\"\n]")
unfolding writes_by bytes
row167 = refl

row168 : reads (47 ∷ 47 ∷ 32 ∷ 97 ∷ 32 ∷ 47 ∷ 47 ∷ 32 ∷ 98 ∷ 32 ∷ 47 ∷ 47 ∷ 32 ∷ 34 ∷ 91 ∷ 123 ∷ 40 ∷ 39 ∷ 39 ∷ 39 ∷ 39 ∷ 9 ∷ 226 ∷ 128 ∷ 168 ∷ 32 ∷ 11 ∷ 13 ∷ 97 ∷ 58 ∷ 39 ∷ 120 ∷ 92 ∷ 92 ∷ 39 ∷ 39 ∷ 39 ∷ 39 ∷ 92 ∷ 97 ∷ 39 ∷ 39 ∷ 39 ∷ 34 ∷ 65 ∷ 34 ∷ 40 ∷ 32 ∷ 93 ∷ 10 ∷ 97 ∷ 9 ∷ 0 ∷ 12 ∷ 34 ∷ 34 ∷ 34 ∷ 0 ∷ []) ≡ 3 ∷ 52 ∷ 53 ∷ 0 ∷ 0 ∷ []
unfolding reads bytes
row168 = refl

row169 : writes_by (settings (bytes "\t") (bytes "\n") (bytes " ") (bytes ": ") false) (13 ∷ 10 ∷ 102 ∷ 97 ∷ 108 ∷ 115 ∷ 101 ∷ 32 ∷ 58 ∷ 13 ∷ 34 ∷ 49 ∷ 72 ∷ 97 ∷ 108 ∷ 102 ∷ 34 ∷ 123 ∷ 10 ∷ 13 ∷ 10 ∷ 10 ∷ []) ≡ 12 ∷ 17 ∷ 18 ∷ 5 ∷ 0 ∷ []
unfolding writes_by bytes
row169 = refl

row170 : writes_by (settings (bytes "\t") (bytes "\n") (bytes " ") (bytes ": ") false) (32 ∷ 32 ∷ 32 ∷ 47 ∷ 47 ∷ 32 ∷ 108 ∷ 105 ∷ 118 ∷ 101 ∷ 10 ∷ 32 ∷ 32 ∷ 47 ∷ 47 ∷ 32 ∷ 108 ∷ 105 ∷ 118 ∷ 101 ∷ 10 ∷ 10 ∷ 34 ∷ 34 ∷ 34 ∷ 34 ∷ 34 ∷ 120 ∷ 240 ∷ 159 ∷ 152 ∷ 128 ∷ 92 ∷ 195 ∷ 169 ∷ 34 ∷ 34 ∷ 120 ∷ 34 ∷ 34 ∷ 34 ∷ 10 ∷ 32 ∷ 32 ∷ 47 ∷ 47 ∷ 226 ∷ 128 ∷ 168 ∷ 194 ∷ 133 ∷ 10 ∷ []) ≡ 0 ∷ (47 ∷ 47 ∷ 32 ∷ 108 ∷ 105 ∷ 118 ∷ 101 ∷ 10 ∷ 47 ∷ 47 ∷ 32 ∷ 108 ∷ 105 ∷ 118 ∷ 101 ∷ 10 ∷ 34 ∷ 34 ∷ 34 ∷ 34 ∷ 34 ∷ 120 ∷ 240 ∷ 159 ∷ 152 ∷ 128 ∷ 92 ∷ 195 ∷ 169 ∷ 34 ∷ 34 ∷ 120 ∷ 34 ∷ 34 ∷ 34 ∷ [])
unfolding writes_by bytes
row170 = refl

row171 : writes_by (settings (bytes "\t") (bytes "\n") (bytes " ") (bytes ": ") false) (226 ∷ 128 ∷ 168 ∷ 12 ∷ 41 ∷ 10 ∷ 39 ∷ 39 ∷ 39 ∷ 9 ∷ 47 ∷ 47 ∷ 32 ∷ 99 ∷ 10 ∷ 12 ∷ 39 ∷ 39 ∷ 9 ∷ 226 ∷ 128 ∷ 168 ∷ 10 ∷ 39 ∷ 39 ∷ 34 ∷ 34 ∷ 34 ∷ 92 ∷ 110 ∷ 34 ∷ 34 ∷ 34 ∷ 32 ∷ 39 ∷ 39 ∷ 39 ∷ 41 ∷ 12 ∷ 39 ∷ 102 ∷ 97 ∷ 108 ∷ 115 ∷ 101 ∷ 39 ∷ 47 ∷ 47 ∷ 240 ∷ 159 ∷ 152 ∷ 128 ∷ 240 ∷ 159 ∷ 152 ∷ 128 ∷ 49 ∷ 39 ∷ 32 ∷ []) ≡ 3 ∷ 0 ∷ 3 ∷ 0 ∷ 0 ∷ []
unfolding writes_by bytes
row171 = refl

row172 : shows (bytes "'''{\\\\\\u{800}\\u{4 1}''''") ≡ 0 ∷ (bytes "{\\\\\\u{800}\\u{4 1}'")
unfolding shows bytes
row172 = refl

row173 : reads (48 ∷ 120 ∷ 49 ∷ 70 ∷ 32 ∷ 57 ∷ 97 ∷ 95 ∷ 98 ∷ 107 ∷ 101 ∷ 121 ∷ 123 ∷ 13 ∷ 107 ∷ 58 ∷ 32 ∷ 49 ∷ 10 ∷ 41 ∷ 9 ∷ 34 ∷ 92 ∷ 34 ∷ 240 ∷ 159 ∷ 152 ∷ 128 ∷ 34 ∷ 123 ∷ 10 ∷ 93 ∷ 12 ∷ 49 ∷ 95 ∷ 48 ∷ 48 ∷ 48 ∷ 13 ∷ 49 ∷ 95 ∷ 48 ∷ 48 ∷ 48 ∷ 10 ∷ 93 ∷ []) ≡ 11 ∷ 19 ∷ 20 ∷ 5 ∷ 7 ∷ []
unfolding reads bytes
row173 = refl

row174 : reads (12 ∷ 32 ∷ 10 ∷ 32 ∷ 10 ∷ []) ≡ 0 ∷ 5 ∷ 0 ∷ 5 ∷ 5 ∷ 1 ∷ []
unfolding reads bytes
row174 = refl

row175 : reads (10 ∷ 9 ∷ 10 ∷ 9 ∷ 95 ∷ 58 ∷ 32 ∷ 32 ∷ 49 ∷ 95 ∷ 48 ∷ 48 ∷ 48 ∷ 32 ∷ 32 ∷ 44 ∷ 224 ∷ 9 ∷ 32 ∷ 32 ∷ []) ≡ 2 ∷ 16 ∷ 16 ∷ 0 ∷ 0 ∷ []
unfolding reads bytes
row175 = refl

row176 : writes_by (settings (bytes "\t") (bytes "\n") (bytes " ") (bytes ": ") false) (107 ∷ 58 ∷ 32 ∷ 49 ∷ 12 ∷ 107 ∷ 58 ∷ 32 ∷ 49 ∷ 39 ∷ 39 ∷ 39 ∷ 34 ∷ 34 ∷ 34 ∷ 34 ∷ 34 ∷ 34 ∷ 47 ∷ 47 ∷ 91 ∷ 39 ∷ 39 ∷ 39 ∷ 10 ∷ 40 ∷ 13 ∷ 123 ∷ 82 ∷ 111 ∷ 117 ∷ 110 ∷ 100 ∷ 95 ∷ 51 ∷ []) ≡ 12 ∷ 28 ∷ 35 ∷ 8 ∷ 0 ∷ []
unfolding writes_by bytes
row176 = refl

row177 : writes_by (settings (bytes "\t") (bytes "\n") (bytes " ") (bytes ": ") false) (47 ∷ 47 ∷ 32 ∷ 34 ∷ 91 ∷ 123 ∷ 40 ∷ 39 ∷ 10 ∷ 9 ∷ 45 ∷ 105 ∷ 110 ∷ 102 ∷ 9 ∷ 112 ∷ 108 ∷ 97 ∷ 121 ∷ 101 ∷ 114 ∷ 115 ∷ 47 ∷ 47 ∷ 47 ∷ 10 ∷ 41 ∷ 10 ∷ 41 ∷ 12 ∷ 44 ∷ 9 ∷ 91 ∷ 10 ∷ []) ≡ 13 ∷ 26 ∷ 27 ∷ 0 ∷ 0 ∷ []
unfolding writes_by bytes
row177 = refl

row178 : writes_by (settings (bytes "\t") (bytes "\n") (bytes " ") (bytes ": ") false) (239 ∷ 187 ∷ 191 ∷ 47 ∷ 47 ∷ 32 ∷ 99 ∷ 10 ∷ 32 ∷ 97 ∷ 58 ∷ 32 ∷ 49 ∷ 10 ∷ 97 ∷ 47 ∷ 47 ∷ 93 ∷ 10 ∷ 13 ∷ 47 ∷ 47 ∷ 32 ∷ 99 ∷ 10 ∷ 9 ∷ 39 ∷ 12 ∷ 48 ∷ 10 ∷ 34 ∷ 9 ∷ 72 ∷ 97 ∷ 108 ∷ 102 ∷ 92 ∷ 195 ∷ 169 ∷ 120 ∷ 34 ∷ 9 ∷ 102 ∷ 97 ∷ 108 ∷ 115 ∷ 101 ∷ 32 ∷ 49 ∷ 46 ∷ 46 ∷ 50 ∷ 32 ∷ []) ≡ 3 ∷ 0 ∷ 3 ∷ 0 ∷ 0 ∷ []
unfolding writes_by bytes
row178 = refl

row179 : tokens_of (110 ∷ 117 ∷ 108 ∷ 39 ∷ 39 ∷ 39 ∷ 120 ∷ 39 ∷ 39 ∷ 39 ∷ 13 ∷ 39 ∷ 39 ∷ 39 ∷ 228 ∷ 184 ∷ 173 ∷ 72 ∷ 97 ∷ 108 ∷ 102 ∷ 39 ∷ 39 ∷ 39 ∷ 32 ∷ 84 ∷ 114 ∷ 117 ∷ 101 ∷ 11 ∷ 12 ∷ 43 ∷ 105 ∷ 110 ∷ 102 ∷ 32 ∷ 45 ∷ 49 ∷ 92 ∷ 32 ∷ 125 ∷ 110 ∷ 117 ∷ 108 ∷ 10 ∷ []) ≡ 0 ∷ 10 ∷ 0 ∷ 3 ∷ 15 ∷ 3 ∷ 10 ∷ 15 ∷ 11 ∷ 24 ∷ 10 ∷ 25 ∷ 29 ∷ 0 ∷ 29 ∷ 30 ∷ 11 ∷ 31 ∷ 35 ∷ 11 ∷ 36 ∷ 38 ∷ 0 ∷ 38 ∷ 39 ∷ 5 ∷ 40 ∷ 41 ∷ 10 ∷ 41 ∷ 44 ∷ []
unfolding tokens_of bytes
row179 = refl

row180 : reads (bytes "\"\"\"x\"\"\"") ≡ 0 ∷ 3 ∷ 0 ∷ 7 ∷ 7 ∷ 1 ∷ []
unfolding reads bytes
row180 = refl

row181 : tokens_of (49 ∷ 46 ∷ 46 ∷ 50 ∷ 13 ∷ 58 ∷ 13 ∷ []) ≡ 0 ∷ 11 ∷ 0 ∷ 4 ∷ 8 ∷ 5 ∷ 6 ∷ []
unfolding tokens_of bytes
row181 = refl

row182 : reads (46 ∷ 53 ∷ 107 ∷ 58 ∷ 32 ∷ 49 ∷ 10 ∷ 47 ∷ 47 ∷ 32 ∷ 108 ∷ 105 ∷ 118 ∷ 101 ∷ 10 ∷ 125 ∷ 9 ∷ 41 ∷ 12 ∷ 47 ∷ 47 ∷ 32 ∷ 108 ∷ 105 ∷ 118 ∷ 101 ∷ 10 ∷ 32 ∷ 84 ∷ 114 ∷ 117 ∷ 101 ∷ 9 ∷ 110 ∷ 117 ∷ 108 ∷ 97 ∷ 58 ∷ 39 ∷ 39 ∷ 32 ∷ 43 ∷ 45 ∷ 46 ∷ 45 ∷ 9 ∷ []) ≡ 13 ∷ 15 ∷ 16 ∷ 0 ∷ 0 ∷ []
unfolding reads bytes
row182 = refl

row183 : writes_by (settings (bytes "\t") (bytes "\n") (bytes " ") (bytes ": ") false) (bytes "\n'''\n [") ≡ 3 ∷ 3 ∷ 4 ∷ 0 ∷ 0 ∷ []
unfolding writes_by bytes
row183 = refl

row184 : reads (bytes " Tru e #:2 ") ≡ 3 ∷ 7 ∷ 8 ∷ 0 ∷ 0 ∷ []
unfolding reads bytes
row184 = refl

row185 : writes_by (settings (bytes "\t") (bytes "\n") (bytes " ") (bytes ": ") false) (bytes " x1,a null") ≡ 0 ∷ (bytes "[x1, a, null]")
unfolding writes_by bytes
row185 = refl

row186 : shows (13 ∷ 34 ∷ 34 ∷ 34 ∷ 92 ∷ 10 ∷ 32 ∷ 98 ∷ 34 ∷ 34 ∷ 34 ∷ []) ≡ 0 ∷ (bytes "b")
unfolding shows bytes
row186 = refl

row187 : reads (32 ∷ 32 ∷ 91 ∷ 32 ∷ 32 ∷ 45 ∷ 49 ∷ 32 ∷ 39 ∷ 120 ∷ 120 ∷ 120 ∷ 120 ∷ 120 ∷ 120 ∷ 120 ∷ 58 ∷ 120 ∷ 120 ∷ 120 ∷ 120 ∷ 120 ∷ 120 ∷ 120 ∷ 120 ∷ 120 ∷ 120 ∷ 120 ∷ 120 ∷ 120 ∷ 120 ∷ 120 ∷ 120 ∷ 120 ∷ 120 ∷ 120 ∷ 120 ∷ 120 ∷ 237 ∷ 160 ∷ 128 ∷ 120 ∷ 120 ∷ 120 ∷ 120 ∷ 120 ∷ 120 ∷ 120 ∷ 120 ∷ 120 ∷ 120 ∷ 120 ∷ 120 ∷ 120 ∷ 120 ∷ 120 ∷ 120 ∷ 120 ∷ 120 ∷ 120 ∷ 120 ∷ 120 ∷ 120 ∷ 39 ∷ 32 ∷ 93 ∷ 92 ∷ 10 ∷ 44 ∷ 32 ∷ 32 ∷ []) ≡ 2 ∷ 38 ∷ 38 ∷ 0 ∷ 0 ∷ []
unfolding reads bytes
row187 = refl

row188 : writes_by (settings (bytes "\t") (bytes ": ") (bytes "0123456789abcdef") (bytes ": ") false) (bytes "\\") ≡ 3 ∷ 0 ∷ 1 ∷ 0 ∷ 0 ∷ []
unfolding writes_by bytes
row188 = refl

row189 : reads (39 ∷ 39 ∷ 39 ∷ 10 ∷ 34 ∷ 97 ∷ 34 ∷ 58 ∷ 13 ∷ 116 ∷ 114 ∷ 117 ∷ 101 ∷ 110 ∷ 117 ∷ 108 ∷ 108 ∷ 9 ∷ 92 ∷ 10 ∷ 47 ∷ 47 ∷ 13 ∷ 10 ∷ 47 ∷ 47 ∷ 9 ∷ 12 ∷ 120 ∷ 13 ∷ 12 ∷ []) ≡ 3 ∷ 2 ∷ 3 ∷ 0 ∷ 0 ∷ []
unfolding reads bytes
row189 = refl

row190 : reads (bytes "[") ≡ 12 ∷ 0 ∷ 1 ∷ 3 ∷ 0 ∷ []
unfolding reads bytes
row190 = refl

row191 : tokens_of (bytes "/#}/") ≡ 0 ∷ 0 ∷ 0 ∷ 1 ∷ 0 ∷ 1 ∷ 2 ∷ 5 ∷ 2 ∷ 3 ∷ 0 ∷ 3 ∷ 4 ∷ []
unfolding tokens_of bytes
row191 = refl

row192 : writes_by (settings (bytes "\t") (bytes "\n") (bytes " ") (bytes ": ") false) (bytes "'''xxxxxxxxxxxxxxxxxxxxxxx'''") ≡ 0 ∷ (bytes "'''xxxxxxxxxxxxxxxxxxxxxxx'''")
unfolding writes_by bytes
row192 = refl

row193 : writes_by (settings (bytes "\t") (bytes "\n") (bytes " ") (bytes ": ") false) (34 ∷ 34 ∷ 34 ∷ 34 ∷ 34 ∷ 34 ∷ 34 ∷ 34 ∷ 34 ∷ 39 ∷ 39 ∷ 9 ∷ 195 ∷ 169 ∷ 12 ∷ 194 ∷ 160 ∷ 13 ∷ 125 ∷ 9 ∷ 123 ∷ []) ≡ 3 ∷ 8 ∷ 9 ∷ 0 ∷ 0 ∷ []
unfolding writes_by bytes
row193 = refl

row194 : tokens_of (39 ∷ 91 ∷ 35 ∷ 13 ∷ []) ≡ 0 ∷ 0 ∷ 0 ∷ 1 ∷ 2 ∷ 1 ∷ 2 ∷ 0 ∷ 2 ∷ 3 ∷ []
unfolding tokens_of bytes
row194 = refl

row195 : shows (39 ∷ 240 ∷ 159 ∷ 152 ∷ 128 ∷ 92 ∷ 92 ∷ 92 ∷ 10 ∷ 226 ∷ 128 ∷ 131 ∷ 13 ∷ 10 ∷ 92 ∷ 32 ∷ 240 ∷ 159 ∷ 152 ∷ 128 ∷ 39 ∷ []) ≡ 19 ∷ 0 ∷ 0 ∷ 0 ∷ 0 ∷ []
unfolding shows bytes
row195 = refl

row196 : reads (32 ∷ 47 ∷ 47 ∷ 10 ∷ 9 ∷ 49 ∷ 95 ∷ 48 ∷ 48 ∷ 48 ∷ 47 ∷ 47 ∷ 32 ∷ 39 ∷ 39 ∷ 39 ∷ 34 ∷ 34 ∷ 34 ∷ 92 ∷ 10 ∷ 13 ∷ []) ≡ 0 ∷ 7 ∷ 1 ∷ 3 ∷ 3 ∷ 1 ∷ 2 ∷ 5 ∷ 10 ∷ 10 ∷ 1 ∷ 8 ∷ 10 ∷ 20 ∷ 20 ∷ 1 ∷ []
unfolding reads bytes
row196 = refl

row197 : reads (bytes "#:}'") ≡ 3 ∷ 0 ∷ 1 ∷ 0 ∷ 0 ∷ []
unfolding reads bytes
row197 = refl

row198 : tokens_of (bytes "\n\nTrue\n\t:\nx1\n\n\t") ≡ 0 ∷ 10 ∷ 2 ∷ 6 ∷ 8 ∷ 8 ∷ 9 ∷ 10 ∷ 10 ∷ 12 ∷ []
unfolding tokens_of bytes
row198 = refl

row199 : writes_by (settings (bytes "\t") (bytes "\n") (bytes " ") (bytes ": ") false) (bytes "'''xxxxxxxxxxxxxxxxxxxxxxxxxxxxxxxxxxxxxxxxxxxxxxxxxxxxxx''' ") ≡ 0 ∷ (bytes "'''xxxxxxxxxxxxxxxxxxxxxxxxxxxxxxxxxxxxxxxxxxxxxxxxxxxxxx'''")
unfolding writes_by bytes
row199 = refl

row200 : writes_by (settings (bytes "\t") (bytes "\n") (bytes " ") (bytes ": ") false) (bytes "2\ta 1..2\nnull\n+k: 1") ≡ 10 ∷ 16 ∷ 17 ∷ 0 ∷ 0 ∷ []
unfolding writes_by bytes
row200 = refl

row201 : writes_by (settings (bytes "\t") (bytes "\n") (bytes " ") (bytes ": ") false) (91 ∷ 12 ∷ 91 ∷ 123 ∷ 10 ∷ 125 ∷ 125 ∷ 9 ∷ 41 ∷ 34 ∷ 34 ∷ 34 ∷ 49 ∷ 34 ∷ 34 ∷ 34 ∷ 125 ∷ 10 ∷ 41 ∷ 12 ∷ []) ≡ 11 ∷ 6 ∷ 7 ∷ 3 ∷ 5 ∷ []
unfolding writes_by bytes
row201 = refl

row202 : writes_by (settings (bytes "\t") (bytes "\n") (bytes " ") (bytes ": ") false) (bytes "\n") ≡ 0 ∷ (bytes "")
unfolding writes_by bytes
row202 = refl

row203 : writes_by (settings (bytes "\t") (bytes "\n") (bytes " ") (bytes ": ") false) (bytes "\n\t\n") ≡ 0 ∷ (bytes "")
unfolding writes_by bytes
row203 = refl

row204 : reads (bytes " {\n\t") ≡ 12 ∷ 1 ∷ 2 ∷ 5 ∷ 0 ∷ []
unfolding reads bytes
row204 = refl

row205 : tokens_of (97 ∷ 41 ∷ 9 ∷ 107 ∷ 58 ∷ 32 ∷ 49 ∷ 9 ∷ 47 ∷ 47 ∷ 195 ∷ 169 ∷ 228 ∷ 184 ∷ 173 ∷ 240 ∷ 159 ∷ 152 ∷ 128 ∷ 10 ∷ 49 ∷ 46 ∷ 53 ∷ 101 ∷ 45 ∷ 51 ∷ 91 ∷ 47 ∷ 47 ∷ 93 ∷ 10 ∷ 32 ∷ 91 ∷ 9 ∷ 41 ∷ 12 ∷ 47 ∷ 47 ∷ 32 ∷ 108 ∷ 105 ∷ 118 ∷ 101 ∷ 10 ∷ 32 ∷ 34 ∷ 34 ∷ 34 ∷ 91 ∷ 240 ∷ 159 ∷ 152 ∷ 128 ∷ 72 ∷ 97 ∷ 108 ∷ 102 ∷ 34 ∷ 34 ∷ 34 ∷ 9 ∷ 58 ∷ 9 ∷ 34 ∷ 9 ∷ 97 ∷ 34 ∷ 10 ∷ 93 ∷ []) ≡ 0 ∷ 10 ∷ 0 ∷ 1 ∷ 7 ∷ 1 ∷ 2 ∷ 10 ∷ 3 ∷ 4 ∷ 8 ∷ 4 ∷ 5 ∷ 11 ∷ 6 ∷ 7 ∷ 1 ∷ 8 ∷ 19 ∷ 11 ∷ 20 ∷ 26 ∷ 2 ∷ 26 ∷ 27 ∷ 1 ∷ 27 ∷ 30 ∷ 2 ∷ 32 ∷ 33 ∷ 7 ∷ 34 ∷ 35 ∷ 1 ∷ 36 ∷ 43 ∷ 14 ∷ 45 ∷ 60 ∷ 8 ∷ 61 ∷ 62 ∷ 12 ∷ 63 ∷ 67 ∷ 3 ∷ 68 ∷ 69 ∷ []
unfolding tokens_of bytes
row205 = refl

row206 : writes_by (settings (bytes "\t") (bytes "\n") (bytes " ") (bytes ": ") false) (bytes " 1.5e-3\n\t\n\t") ≡ 0 ∷ (bytes "1.5e-3")
unfolding writes_by bytes
row206 = refl

row207 : writes_by (settings (bytes "\t") (bytes "\n") (bytes " ") (bytes ": ") false) (13 ∷ 13 ∷ 10 ∷ 91 ∷ 32 ∷ 91 ∷ 9 ∷ 93 ∷ 10 ∷ 44 ∷ 10 ∷ 13 ∷ 10 ∷ 9 ∷ 34 ∷ 34 ∷ 32 ∷ 32 ∷ 10 ∷ 32 ∷ 10 ∷ 43 ∷ 45 ∷ 46 ∷ 12 ∷ 44 ∷ 10 ∷ 13 ∷ 10 ∷ 93 ∷ 32 ∷ 9 ∷ []) ≡ 0 ∷ (bytes "[[], \"\", +-.]")
unfolding writes_by bytes
row207 = refl

row208 : reads (bytes "\n\t") ≡ 0 ∷ 5 ∷ 0 ∷ 2 ∷ 2 ∷ 1 ∷ []
unfolding reads bytes
row208 = refl

row209 : writes_by (settings (bytes "\t") (bytes "\n") (bytes " ") (bytes ": ") false) (34 ∷ 65 ∷ 34 ∷ 40 ∷ 13 ∷ 107 ∷ 58 ∷ 32 ∷ 49 ∷ 13 ∷ 102 ∷ 97 ∷ 108 ∷ 115 ∷ 101 ∷ 9 ∷ []) ≡ 10 ∷ 6 ∷ 7 ∷ 0 ∷ 0 ∷ []
unfolding writes_by bytes
row209 = refl

row210 : reads (bytes " ") ≡ 0 ∷ 5 ∷ 0 ∷ 1 ∷ 1 ∷ 1 ∷ []
unfolding reads bytes
row210 = refl

row211 : reads (32 ∷ 39 ∷ 91 ∷ 195 ∷ 169 ∷ 32 ∷ 39 ∷ 13 ∷ 10 ∷ []) ≡ 0 ∷ 3 ∷ 1 ∷ 7 ∷ 7 ∷ 1 ∷ []
unfolding reads bytes
row211 = refl

row212 : tokens_of (bytes "  1.5e-3\n'\n,\n") ≡ 0 ∷ 11 ∷ 2 ∷ 8 ∷ 0 ∷ 9 ∷ 10 ∷ 9 ∷ 11 ∷ 12 ∷ []
unfolding tokens_of bytes
row212 = refl

row213 : reads (bytes "a]()") ≡ 13 ∷ 1 ∷ 2 ∷ 0 ∷ 0 ∷ []
unfolding reads bytes
row213 = refl

row214 : shows (39 ∷ 39 ∷ 39 ∷ 34 ∷ 92 ∷ 92 ∷ 13 ∷ 92 ∷ 101 ∷ 39 ∷ 39 ∷ 39 ∷ []) ≡ 0 ∷ (bytes "\"\\\\\\e")
unfolding shows bytes
row214 = refl

row215 : compares (bytes "  \n\t") (10 ∷ 13 ∷ []) ≡ 0 ∷ 1 ∷ []
unfolding compares bytes
row215 = refl

row216 : shows (39 ∷ 39 ∷ 39 ∷ 92 ∷ 36 ∷ 92 ∷ 118 ∷ 13 ∷ 10 ∷ 39 ∷ []) ≡ 18 ∷ 0 ∷ 0 ∷ 0 ∷ 0 ∷ []
unfolding shows bytes
row216 = refl

row217 : writes_by (settings (bytes "\t") (bytes "\n") (bytes " ") (bytes ": ") false) (92 ∷ 34 ∷ 12 ∷ 97 ∷ 58 ∷ 32 ∷ 49 ∷ 10 ∷ 13 ∷ 47 ∷ 47 ∷ 93 ∷ 10 ∷ 9 ∷ []) ≡ 3 ∷ 0 ∷ 1 ∷ 0 ∷ 0 ∷ []
unfolding writes_by bytes
row217 = refl

row218 : writes_by (settings (bytes "\t") (bytes "\n") (bytes " ") (bytes ": ") false) (bytes "\n\"\"\"xxxxxxxxxxxxx#xxxxxxxx\"\"\",\n\n\tnul\n\t") ≡ 0 ∷ (bytes "[\"\"\"xxxxxxxxxxxxx#xxxxxxxx\"\"\", nul]")
unfolding writes_by bytes
row218 = refl

row219 : reads (39 ∷ 39 ∷ 39 ∷ 34 ∷ 34 ∷ 34 ∷ 9 ∷ 195 ∷ 169 ∷ 240 ∷ 159 ∷ 152 ∷ 128 ∷ 34 ∷ 34 ∷ 34 ∷ 39 ∷ 39 ∷ 39 ∷ 34 ∷ 9 ∷ 46 ∷ 53 ∷ 39 ∷ 39 ∷ 39 ∷ 34 ∷ 9 ∷ 34 ∷ 34 ∷ 34 ∷ 10 ∷ 39 ∷ 39 ∷ 39 ∷ 107 ∷ 101 ∷ 121 ∷ 11 ∷ 32 ∷ 44 ∷ 32 ∷ 97 ∷ []) ≡ 3 ∷ 30 ∷ 31 ∷ 0 ∷ 0 ∷ []
unfolding reads bytes
row219 = refl

row220 : ident (bytes "nullaa") ≡ 0 ∷ 1 ∷ []
unfolding ident bytes
row220 = refl

row221 : reads (bytes "false:\"xxxxxxxxxxxxx}xxxx\"\"\"xx\",key:'' ,") ≡ 11 ∷ 28 ∷ 30 ∷ 8 ∷ 10 ∷ []
unfolding reads bytes
row221 = refl

row222 : reads (bytes "") ≡ 0 ∷ 5 ∷ 0 ∷ 0 ∷ 0 ∷ 1 ∷ []
unfolding reads bytes
row222 = refl

row223 : reads (13 ∷ 10 ∷ 9 ∷ 34 ∷ 34 ∷ 34 ∷ 34 ∷ 34 ∷ 120 ∷ 226 ∷ 128 ∷ 168 ∷ 228 ∷ 184 ∷ 173 ∷ 194 ∷ 160 ∷ 49 ∷ 34 ∷ 34 ∷ 34 ∷ 47 ∷ 47 ∷ 226 ∷ 128 ∷ 168 ∷ 194 ∷ 133 ∷ 10 ∷ 10 ∷ 13 ∷ 10 ∷ 58 ∷ 10 ∷ 13 ∷ 10 ∷ 46 ∷ 47 ∷ 47 ∷ 32 ∷ 39 ∷ 39 ∷ 39 ∷ 34 ∷ 34 ∷ 34 ∷ 92 ∷ 10 ∷ 10 ∷ 13 ∷ 10 ∷ 10 ∷ []) ≡ 0 ∷ 5 ∷ 0 ∷ 52 ∷ 52 ∷ 5 ∷ 3 ∷ 3 ∷ 21 ∷ 21 ∷ 1 ∷ 8 ∷ 21 ∷ 28 ∷ 28 ∷ 1 ∷ 2 ∷ 36 ∷ 37 ∷ 37 ∷ 1 ∷ 8 ∷ 37 ∷ 47 ∷ 47 ∷ 1 ∷ []
unfolding reads bytes
row223 = refl

row224 : reads (32 ∷ 10 ∷ 32 ∷ 10 ∷ 13 ∷ []) ≡ 0 ∷ 5 ∷ 0 ∷ 5 ∷ 5 ∷ 1 ∷ []
unfolding reads bytes
row224 = refl

row225 : writes_by (settings (bytes "\t") (bytes "\n") (bytes " ") (bytes ": ") false) (bytes "1 ,\n 1_000\n\t\n9a_b\n") ≡ 0 ∷ (bytes "[1, 1_000, 9a_b]")
unfolding writes_by bytes
row225 = refl

row226 : tokens_of (48 ∷ 120 ∷ 49 ∷ 70 ∷ 34 ∷ 34 ∷ 34 ∷ 195 ∷ 169 ∷ 34 ∷ 34 ∷ 34 ∷ 32 ∷ 58 ∷ 10 ∷ 92 ∷ 13 ∷ 34 ∷ 34 ∷ 125 ∷ 12 ∷ 35 ∷ 47 ∷ 47 ∷ 32 ∷ 108 ∷ 105 ∷ 118 ∷ 101 ∷ 12 ∷ 194 ∷ 160 ∷ 10 ∷ []) ≡ 0 ∷ 11 ∷ 0 ∷ 4 ∷ 14 ∷ 4 ∷ 12 ∷ 8 ∷ 13 ∷ 14 ∷ 0 ∷ 15 ∷ 16 ∷ 12 ∷ 17 ∷ 19 ∷ 5 ∷ 19 ∷ 20 ∷ 0 ∷ 21 ∷ 22 ∷ 1 ∷ 22 ∷ 32 ∷ []
unfolding tokens_of bytes
row226 = refl

row227 : writes_by (settings (bytes "\t") (bytes "\n") (bytes " ") (bytes ": ") false) (32 ∷ 10 ∷ 32 ∷ 10 ∷ 9 ∷ 34 ∷ 91 ∷ 120 ∷ 92 ∷ 117 ∷ 123 ∷ 52 ∷ 49 ∷ 125 ∷ 34 ∷ 9 ∷ 10 ∷ 13 ∷ []) ≡ 0 ∷ (bytes "\"[x\\u{41}\"")
unfolding writes_by bytes
row227 = refl

row228 : reads (bytes "#\\\",") ≡ 3 ∷ 0 ∷ 1 ∷ 0 ∷ 0 ∷ []
unfolding reads bytes
row228 = refl

row229 : tokens_of (91 ∷ 12 ∷ 47 ∷ 47 ∷ 10 ∷ 9 ∷ 39 ∷ 39 ∷ 39 ∷ 120 ∷ 39 ∷ 39 ∷ 39 ∷ 9 ∷ 97 ∷ 58 ∷ 116 ∷ 114 ∷ 117 ∷ 101 ∷ 0 ∷ 9 ∷ 125 ∷ 10 ∷ 35 ∷ 13 ∷ []) ≡ 0 ∷ 2 ∷ 0 ∷ 1 ∷ 1 ∷ 2 ∷ 4 ∷ 15 ∷ 6 ∷ 13 ∷ 10 ∷ 14 ∷ 15 ∷ 8 ∷ 15 ∷ 16 ∷ 10 ∷ 16 ∷ 20 ∷ 0 ∷ 20 ∷ 21 ∷ 5 ∷ 22 ∷ 23 ∷ 0 ∷ 24 ∷ 25 ∷ []
unfolding tokens_of bytes
row229 = refl

row230 : tokens_of (bytes "\n}  ") ≡ 0 ∷ 5 ∷ 1 ∷ 2 ∷ []
unfolding tokens_of bytes
row230 = refl

row231 : writes_by (settings (bytes "\t") (bytes "\n") (bytes " ") (bytes ": ") false) (107 ∷ 58 ∷ 32 ∷ 49 ∷ 13 ∷ 34 ∷ 34 ∷ 34 ∷ 34 ∷ 34 ∷ 34 ∷ 9 ∷ []) ≡ 12 ∷ 5 ∷ 11 ∷ 8 ∷ 0 ∷ []
unfolding writes_by bytes
row231 = refl

row232 : reads (bytes "null:0 key:\"1x\"key:null ,") ≡ 0 ∷ 5 ∷ 0 ∷ 25 ∷ 25 ∷ 7 ∷ 1 ∷ 0 ∷ 4 ∷ 4 ∷ 1 ∷ 2 ∷ 5 ∷ 6 ∷ 6 ∷ 1 ∷ 1 ∷ 7 ∷ 10 ∷ 10 ∷ 1 ∷ 3 ∷ 11 ∷ 15 ∷ 15 ∷ 1 ∷ 1 ∷ 15 ∷ 18 ∷ 18 ∷ 1 ∷ 1 ∷ 19 ∷ 23 ∷ 23 ∷ 1 ∷ []
unfolding reads bytes
row232 = refl

row233 : tokens_of (49 ∷ 44 ∷ 13 ∷ 34 ∷ 34 ∷ 34 ∷ 39 ∷ 9 ∷ 92 ∷ 10 ∷ 91 ∷ 92 ∷ 110 ∷ 34 ∷ 34 ∷ 34 ∷ 34 ∷ 34 ∷ 34 ∷ 92 ∷ 110 ∷ 228 ∷ 184 ∷ 173 ∷ 34 ∷ 34 ∷ 120 ∷ 39 ∷ 34 ∷ 34 ∷ 34 ∷ 93 ∷ 13 ∷ 49 ∷ 95 ∷ 48 ∷ 48 ∷ 48 ∷ 39 ∷ 39 ∷ 39 ∷ 47 ∷ []) ≡ 0 ∷ 11 ∷ 0 ∷ 1 ∷ 9 ∷ 1 ∷ 2 ∷ 14 ∷ 3 ∷ 16 ∷ 14 ∷ 16 ∷ 31 ∷ 3 ∷ 31 ∷ 32 ∷ 11 ∷ 33 ∷ 38 ∷ 13 ∷ 38 ∷ 40 ∷ 0 ∷ 40 ∷ 41 ∷ 0 ∷ 41 ∷ 42 ∷ []
unfolding tokens_of bytes
row233 = refl

row234 : reads (bytes "+nan, ") ≡ 0 ∷ 2 ∷ 0 ∷ 4 ∷ 4 ∷ 1 ∷ []
unfolding reads bytes
row234 = refl

row235 : writes_by (settings (bytes "\t") (bytes "\n") (bytes " ") (bytes ": ") false) (34 ∷ 11 ∷ 9 ∷ 112 ∷ 108 ∷ 97 ∷ 121 ∷ 101 ∷ 114 ∷ 115 ∷ 39 ∷ 39 ∷ 39 ∷ 120 ∷ 39 ∷ 39 ∷ 39 ∷ 32 ∷ 49 ∷ 12 ∷ 34 ∷ 34 ∷ 43 ∷ 45 ∷ 46 ∷ 39 ∷ 115 ∷ 39 ∷ 12 ∷ 195 ∷ 169 ∷ 10 ∷ []) ≡ 3 ∷ 21 ∷ 22 ∷ 0 ∷ 0 ∷ []
unfolding writes_by bytes
row235 = refl

row236 : writes_by (settings (bytes "[") (bytes "\n") (13 ∷ 10 ∷ []) (bytes ": ") true) (bytes "") ≡ 0 ∷ (bytes "{}")
unfolding writes_by bytes
row236 = refl

row237 : tokens_of (bytes "1,{1") ≡ 0 ∷ 11 ∷ 0 ∷ 1 ∷ 9 ∷ 1 ∷ 2 ∷ 4 ∷ 2 ∷ 3 ∷ 11 ∷ 3 ∷ 4 ∷ []
unfolding tokens_of bytes
row237 = refl

row238 : writes_by (settings (bytes "\t") (bytes "\n") (bytes " ") (bytes ": ") false) (13 ∷ 32 ∷ 10 ∷ 32 ∷ 10 ∷ 49 ∷ 46 ∷ 46 ∷ 50 ∷ 13 ∷ 10 ∷ 58 ∷ 13 ∷ 98 ∷ 13 ∷ 10 ∷ 13 ∷ 10 ∷ []) ≡ 0 ∷ (bytes "1..2: b\n")
unfolding writes_by bytes
row238 = refl

row239 : reads (13 ∷ 13 ∷ 39 ∷ 49 ∷ 39 ∷ 39 ∷ 10 ∷ 40 ∷ 12 ∷ 123 ∷ 125 ∷ 13 ∷ 10 ∷ 44 ∷ 192 ∷ 12 ∷ 41 ∷ 10 ∷ 13 ∷ []) ≡ 2 ∷ 14 ∷ 14 ∷ 0 ∷ 0 ∷ []
unfolding reads bytes
row239 = refl
